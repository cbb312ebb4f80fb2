-- The first pass of the writer, with so many words passed.
use mathlib.Core.Path.{◌≡◌, refl, sym, ap, ◌∙◌}
use mathlib.Core.List.{List}
use Prim.Native.Nat.{ℕ, ◌+◌, ◌*◌, ◌≤◌, ◌<◌}
use native.Mathlib.Omega.{arith}
use lib.ListN.{length, get_or, drop, length-append, drop_of_length-le}
use borrow.Author.Tests.{lt-ltb, le-ltb}
use Rattle.words.specs.Instructions.{list_limit}
use Rattle.words.specs.Check.{word_refusal, first_bad, list_check, list_check_alone, no_areas}
use Rattle.words.proofs.Bad.{bad_here, bad_later, bad_none}
use Rattle.seven_bit.specs.SevenBits.{bytes_of}
use Rattle.list_file.specs.Writing.{word_bytes, words_bytes, file_of}
use Rattle.list_file.proofs.Laid.{words-next, nine_bytes}
use Rattle.seven_bit.proofs.Shortest.{few_bytes}

pub record Sizing (list : List ℕ) (size place : ℕ) : Type 0 where
  pub within : place ≤ length list
  pub small : size ≤ 3 + 9 * place
  pub sized : length (file_of list) ≡ size + length (words_bytes (drop place list))
  pub checked : first_bad no_areas 0 list ≡ first_bad no_areas place (drop place list)

module _ (list : List ℕ) where
  pub too_long_lem : list_limit < length list → record { refusal = 1; place = list_limit } ≡ list_check_alone list
  unfolding list_check
  too_long_lem h = rw (lt-ltb list_limit (length list) h)

  pub sizing_none : {size : ℕ} → size ≡ length (bytes_of (length list)) → Sizing list size 0
  sizing_none e = record {
    within = omega arith;
    small = omega (arith, few_bytes (length list));
    sized = omega (arith, length-append (bytes_of (length list)) (words_bytes list));
    checked = refl;
  }

  module _ {size place : ℕ} (s : Sizing list size place) where
    abbrev refusal : ℕ
    refusal = word_refusal no_areas (get_or list place 0)

    module _ (h : place < length list) where
      pub sizing_more : {more : ℕ} → refusal ≡ 0 → more ≡ length (word_bytes (get_or list place 0)) → Sizing list (size + more) (place + 1)
      sizing_more ok e = record {
        within = omega arith;
        small = omega (arith, s.small, nine_bytes (get_or list place 0));
        sized = omega (arith, s.sized, ap length (words-next list place h), length-append (word_bytes (get_or list place 0)) (words_bytes (drop (place + 1) list)));
        checked = s.checked ∙ bad_later no_areas list place h ok;
      }

      pub sizing_bad : length list ≤ list_limit → {bad : ℕ} → bad ≡ refusal → (bad ≡ 0 → ⊥) → record { refusal = bad; place = place } ≡ list_check_alone list
      unfolding list_check
      sizing_bad short e n = rw (le-ltb list_limit (length list) short, e) (sym (s.checked ∙ bad_here no_areas list place h (rw e at n)))

    pub sizing_all : length list ≤ list_limit → length list ≤ place
        → (record { refusal = 0; place = length list } ≡ list_check_alone list) × (size ≡ length (file_of list))
    unfolding list_check
    sizing_all short past = (
      rw (le-ltb list_limit (length list) short) (sym (s.checked ∙ bad_none no_areas list place past s.within)),
      omega (arith, s.sized, ap (λ (l : List ℕ). length (words_bytes l)) (drop_of_length-le list past)),
    )
