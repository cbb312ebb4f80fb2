-- The writer's answer and bytes, by what its first pass found.
use mathlib.Core.Path.{◌≡◌, refl, sym, ap, ◌∙◌}
use mathlib.Core.Bool.{Bool, true, false, cond}
use mathlib.Core.List.{List}
use Prim.Native.Nat.{ℕ, ◌+◌, ◌≤◌, ◌<◌}
use native.Mathlib.Omega.{arith}
use lib.Dec.{ltb}
use lib.ListN.{length}
use lib.Seq.{sets}
use borrow.Author.Tests.{ltb-false, lt-ltb, le-ltb, ne_eqb}
use Rattle.words.specs.Instructions.{list_limit}
use Rattle.words.specs.Check.{Verdict}
use Rattle.words.specs.declared.Areas.{Areas}
use Rattle.words.specs.Check.{first_bad, list_check, list_check_alone, no_areas}
use Rattle.seven_bit.specs.SevenBits.{bytes_of}
use Rattle.list_file.specs.Writing.{Written, words_bytes, file_of, write_answer, write_bytes}
use Rattle.list_file.proofs.Laid.{sets_append}
use Rattle.list_file.proofs.Passed.{sets_over}

-- a list that passes is within the limit
pub within_limit : (areas : Areas) (list : List ℕ) → (list_check areas list).refusal ≡ 0 → length list ≤ list_limit
unfolding list_check
within_limit areas list e = go (ltb list_limit (length list)) refl e
  where
    go : (b : Bool) → ltb list_limit (length list) ≡ b
        → ◌≡◌ {A = ℕ} (cond {A = Verdict} b (record { refusal = 1; place = list_limit }) (first_bad areas 0 list)).refusal 0
        → length list ≤ list_limit
    go true p e = absurd (omega arith)
    go false p e = ltb-false list_limit (length list) p

-- the count, then the words
pub sets_file : (bytes list : List ℕ)
    → sets (sets bytes 0 (bytes_of (length list))) (0 + length (bytes_of (length list))) (words_bytes list) ≡ sets bytes 0 (file_of list)
sets_file bytes list = sym (sets_append bytes 0 (bytes_of (length list)) (words_bytes list))

module _ (list bytes : List ℕ) where
  -- what the writer gives and leaves
  abbrev Wrote : Written → List ℕ → Type 0
  Wrote answer b = (answer ≡ write_answer list bytes) × (b ≡ write_bytes list bytes)

  pub wrote_refused : (refusal : ℕ) {place : ℕ} → (refusal ≡ 0 → ⊥) → record { refusal = refusal; place = place } ≡ list_check_alone list
      → Wrote (record { length = 0; refusal = refusal; place = place }) bytes
  wrote_refused refusal n check = (rw (← check, ne_eqb refusal 0 n), rw (← check, ne_eqb refusal 0 n, ne_eqb refusal 0 n))

  module _ {place size : ℕ} (check : record { refusal = 0; place = place } ≡ list_check_alone list) (sized : size ≡ length (file_of list)) where
    pub wrote_short : length bytes < size → Wrote (record { length = 0; refusal = 11; place = place }) bytes
    wrote_short h =
        let s : length bytes < length (file_of list) = omega arith in (
          rw (← check, lt-ltb (length bytes) (length (file_of list)) s),
          rw (← check, lt-ltb (length bytes) (length (file_of list)) s),
        )

    pub wrote_all : size ≤ length bytes → {bytes' : List ℕ} → bytes' ≡ sets bytes 0 (file_of list)
        → Wrote (record { length = size; refusal = 0; place = place }) bytes'
    wrote_all h e =
        let s : length (file_of list) ≤ length bytes = omega arith in (
          rw (sized, ← check, le-ltb (length bytes) (length (file_of list)) s),
          e ∙ sets_over (file_of list) bytes s ∙ rw (← check, le-ltb (length bytes) (length (file_of list)) s),
        )

    pub wrote_within : length list ≤ list_limit
    wrote_within = within_limit no_areas list (sym (ap (λ (v : Verdict). v.refusal) check))
