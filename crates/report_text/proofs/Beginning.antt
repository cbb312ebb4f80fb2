-- The list as read.
use mathlib.Core.Path.{◌≡◌, sym, ap, ◌∙◌}
use mathlib.Core.List.{List}
use Prim.Native.Nat.{ℕ, ◌≤◌}
use native.Mathlib.Omega.{arith}
use lib.ListN.{length}
use Rattle.std.specs.Prelude.{Option, Ok}
use Rattle.words.specs.Instructions.{list_limit}
use Rattle.seven_bit.specs.SevenBits.{accepted}
use Rattle.list_file.specs.Reading.{ListRead, field_at, words_at, count_refusal, list_in, answered, read_answer, read_words}
use Rattle.list_file.proofs.Inverse.{field_of, then_of}
use Rattle.list_file.proofs.Words.{as_many}
use Rattle.list_file.proofs.Passed.{count_of}
use Rattle.list_file.proofs.RoundTrip.{is_read}
use Rattle.printing.specs.Lines.{Nothing}
use Rattle.theory_report.specs.Report.{read_fault, list_fault, words_in}
use Rattle.report_text.specs.Files.{opened, ListTaken}
use Rattle.report_text.proofs.FileFaults.{own_fault, opened_bytes}

-- as many words as there is room for, at most
list-few : (room : ℕ) (bytes : List ℕ) {words : List ℕ} {end : ℕ} → list_in room bytes ≡ accepted words end → length words ≤ room
unfolding list_in
list-few room bytes {words} e =
    let one = then_of (field_at (count_refusal room) bytes 0) (λ count at. words_at count bytes at) e in
    let n : length words ≡ one.first = as_many one.first bytes one.next one.rest in
    omega (arith, n, (count_of room one.first (field_of (count_refusal room) bytes 0 one.is).passes).1)

module _ (file : Option (List ℕ)) {bytes : List ℕ} (is : Ok bytes ≡ opened file) (words : List ℕ) (room : length words ≡ list_limit) where
  pub list_taken : {count place : ℕ} {buffer : List ℕ} → record { count = count; refusal = 0; place = place } ≡ read_answer bytes words
      → buffer ≡ read_words bytes words → ListTaken file buffer (Ok count)
  list_taken {count} {place} {buffer} a w =
      let r = is_read bytes words (sym (ap (λ (x : ListRead). x.refusal) a)) in
      let l : list_in list_limit bytes ≡ accepted r.list r.end = sym (ap (λ n. list_in n bytes) room) ∙ r.is in
      let b : record { count = count; refusal = 0; place = place } ≡ answered (list_in list_limit bytes) = a ∙ ap (λ n. answered (list_in n bytes)) room in
      let q : Nothing ≡ read_fault (list_in list_limit bytes) = rw l in
      let v : r.list ≡ words_in (list_in list_limit bytes) = rw l in
      let n : count ≡ length r.list = ap (λ (x : ListRead). x.count) b ∙ rw l in
      record {
        is = q ∙ own_fault list_fault file is;
        words = rw (opened_bytes file is) (rw (ap (λ (x : ListRead). x.count) a, w) (r.back ∙ v));
        few = omega (arith, n, list-few list_limit bytes l);
      }
