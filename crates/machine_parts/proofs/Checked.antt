-- What the entries that check the list alone give, from the answer v of the check.
use mathlib.Core.Path.{◌≡◌, sym, ap, ◌∙◌}
use mathlib.Core.List.{List}
use lib.ListN.{length, replicate}
use Rattle.words.specs.Check.{Verdict, list_check}
use Rattle.theory_machine.specs.Tags.{register_count}
use Rattle.theory_machine.specs.Machine.{Kind, Lent, areas_of}
use Rattle.theory_machine.specs.OneAtATime.{Run, run_to}
use Rattle.theory_machine.specs.Entries.{empty_machine, list_refusal, fresh, one_at_a_time}
use Rattle.theory_machine.proofs.Entries.{refused_entries_lem, fresh-is, one_at_a_time_is}

module _ (K : Kind) (L : Lent K.Num) {v : Verdict} (e : v ≡ list_check (areas_of L) L.words) where
  pub list_passes : v.refusal ≡ 0 → list_refusal K L ≡ 0
  list_passes z = ap (λ (w : Verdict). w.refusal) (sym e) ∙ z

  module _ (n : v.refusal ≡ 0 → ⊥) where
    list-refused : list_refusal K L ≡ 0 → ⊥
    list-refused z = n (ap (λ (w : Verdict). w.refusal) e ∙ z)

    pub fresh-refused : (starts : List K.Num) → record { refusal = v.refusal; machine = empty_machine (replicate register_count K.nought) } ≡ fresh K L starts
    fresh-refused starts = rw e (sym (((refused_entries_lem K L).0 list-refused).of_fresh starts))

    pub run-refused : (start : Run K.Num) → record { refusal = v.refusal; run = start } ≡ one_at_a_time K L start
    run-refused start = rw e (sym (((refused_entries_lem K L).0 list-refused).of_run start))

  module _ (z : v.refusal ≡ 0) where
    pub fresh-taken : (starts : List K.Num) → record { refusal = 0; machine = empty_machine starts } ≡ fresh K L starts
    fresh-taken starts = sym (fresh-is K L (list_passes z) starts)

    pub run-taken : (start : Run K.Num) → record { refusal = 0; run = run_to K L start (length L.words) } ≡ one_at_a_time K L start
    run-taken start = sym (one_at_a_time_is K L (list_passes z) start)
