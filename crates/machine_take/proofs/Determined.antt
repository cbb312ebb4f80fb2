-- The contract of the public function determines its answer.
use mathlib.Core.Path.{◌≡◌, refl, sym, ap, ◌∙◌}
use mathlib.Core.Option.{Option, none, some}
use lib.Ieee.{Float}
use Rattle.std.specs.Prelude as std
use Rattle.std.specs.Prelude.{Result, Ok, Err, Some, None}
use Rattle.numbers.proofs.Determined.{Determines, one_answer}
use Rattle.words.specs.declared.refusal.Refusal.{Refusal}
use Rattle.words.specs.Refusals.{answer_number}
use Rattle.words.proofs.Refusals.{number_exact, number_real}
use Rattle.theory_machine.specs.Machine as theory
use Rattle.machine_parts.specs.declared.Record.{Record}
use Rattle.machine_parts.specs.Back.{record_of}
use Rattle.machine_parts.specs.View.{view_released, released_by}
use Rattle.machine_parts.proofs.Exact.{view_exact}
use Rattle.machine_take.specs.declared.taking.Taken as code
use Rattle.machine_take.specs.Taking.{Taken, view_taken}
use Rattle.machine_take.proofs.taking.take_codes.Kinds as take-codes-kinds
use Rattle.machine_take.proofs.taking.take_codes.Reads as take-codes-reads

-- back from what was released
abbrev released_back : Option (theory.Record Float) → std.Option Record
released_back none = None
released_back (some r) = Some (record_of r)

released_back_lem : (x : std.Option Record) → released_back (view_released x) ≡ x
released_back_lem None = refl
released_back_lem (Some r) = refl

pub released_exact : (x y : std.Option Record) → view_released x ≡ view_released y → x ≡ y
released_exact x y e = sym (released_back_lem x) ∙ ap released_back e ∙ released_back_lem y

pub outcome_exact : (x y : Result (std.Option Record) Refusal) → answer_number x ≡ answer_number y → released_by x ≡ released_by y → x ≡ y
outcome_exact (Ok x) (Ok y) n e = ap Ok (released_exact x y e)
outcome_exact (Ok x) (Err s) n e = absurd (number_real s (sym n))
outcome_exact (Err r) (Ok y) n e = absurd (number_real r n)
outcome_exact (Err r) (Err s) n e = ap Err (number_exact r s n)

taken_exact : (x y : code.Taken) → view_taken x ≡ view_taken y → x ≡ y
taken_exact x y e =
    let m = view_exact x.machine y.machine (ap (λ (t : Taken). t.machine) e) in
    let o = outcome_exact x.outcome y.outcome (ap (λ (t : Taken). t.refusal) e) (ap (λ (t : Taken). t.released) e) in
    λ i. record { machine = m i; steps = (e i).steps; place = (e i).place; outcome = o i }

pub take_codes_determined : Determines 3 take-codes-kinds.ps take-codes-kinds.r take-codes-reads.Post
take_codes_determined κs a x y s t p q = taken_exact x y (one_answer p q)
