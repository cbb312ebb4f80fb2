-- The change that each kind of step comes to.
use mathlib.Core.Path.{◌≡◌, sym, ap, ◌∙◌}
use mathlib.Core.List.{[]}
use Prim.Native.Nat.{ℕ}
use lib.Ieee.{Float}
use lib.ListN.{get_or, get_or-map}
use Rattle.std.specs.Prelude.{Some, None, Result, Ok, Err}
use Rattle.words.specs.declared.refusal.Refusal.{Refusal}
use Rattle.words.specs.declared.refusal.Refusal.TheVariants.{Code}
use Rattle.theory_machine.specs.Machine as theory
use Rattle.theory_machine.specs.Machine.{Lent}
use Rattle.theory_machine.specs.Binary64.{binary64}
use Rattle.theory_machine.specs.Issue.{Answer}
use Rattle.theory_machine.specs.Steps.{arrive, complete, grant_buffer, grant_station, release_store, perform_step}
use Rattle.machine_parts.specs.View.{view, view_buffer, view_station, view_store, cells_alone}
use Rattle.machine_parts.specs.declared.Machine.{Machine}
use Rattle.machine_parts.specs.declared.Buffer.{Buffer}
use Rattle.machine_parts.specs.declared.Station.{Station}
use Rattle.machine_parts.specs.declared.StoreBuffer.{StoreBuffer}
use Rattle.machine_parts.specs.declared.BufferState.TheVariants as buffer
use Rattle.machine_parts.specs.declared.StationState.TheVariants as station
use Rattle.machine_slots.specs.declared.code.Step.{Step}
use Rattle.machine_slots.specs.declared.code.Step.TheVariants.{Issue, Arrival, Completion, BufferGrant, StationGrant, Release}
use Rattle.machine_slots.specs.Slots.{view_step, ReadsAs}
use Rattle.machine_slots.proofs.Codes.{performed}
use Rattle.machine_take.specs.declared.issue.Issue as issue
use Rattle.machine_take.specs.declared.change.Change.{Change}
use Rattle.machine_take.specs.declared.change.Change.TheVariants.{Issues}
use Rattle.machine_take.specs.Changes.{Makes, Changes, IssuesNext}

abbrev free_buffer : Buffer
free_buffer = record { state = buffer.Free }

abbrev free_station : Station
free_station = record { state = station.Free }

abbrev free_store : StoreBuffer
free_store = record { pending = None }

module _ {L : Lent Float} {m : Machine} {code : ℕ} where
  pub no_step : ReadsAs code None → Changes L m code (Err Code)
  no_step read = record { is = sym (performed read L (view m)); within = tt }

  module _ {r : Step} (read : ReadsAs code (Some r)) where
    pub issue_refused : {refusal : Refusal} → r ≡ Issue → IssuesNext m L (Err refusal) → Changes L m code (Err refusal)
    issue_refused e h = record { is = h.is ∙ rw e at (sym (performed read L (view m))); within = h.within }

    pub issue_found : {i : issue.Issue} → r ≡ Issue → IssuesNext m L (Ok i) → Changes L m code (Ok (Issues i))
    issue_found e h = record { is = h.is ∙ rw e at (sym (performed read L (view m))); within = h.within }

    module _ {c : Result Change Refusal} where
      found : {s : Step} {f : theory.Machine Float → Answer Float} → r ≡ s → Makes c f → f (view m) ≡ perform_step binary64 L (view m) (view_step s) → Changes L m code c
      found e h q = record { is = h.is (view m) ∙ q ∙ rw e at (sym (performed read L (view m))); within = h.within m.next }

      pub arrival_found : {i : ℕ} → r ≡ Arrival i → Makes c (λ n. arrive binary64 (cells_alone L.operands) n i (view_buffer (get_or m.buffers i free_buffer))) → Changes L m code c
      arrival_found {i} e h = found e h (ap (arrive binary64 L (view m) i) (sym (get_or-map view_buffer m.buffers i free_buffer)))

      pub completion_found : {i : ℕ} → r ≡ Completion i → Makes c (λ n. complete binary64 (cells_alone []) n i (view_station (get_or m.stations i free_station))) → Changes L m code c
      completion_found {i} e h = found e h (ap (complete binary64 L (view m) i) (sym (get_or-map view_station m.stations i free_station)))

      pub buffer_grant_found : {i : ℕ} → r ≡ BufferGrant i → Makes c (λ n. grant_buffer n i (view_buffer (get_or m.buffers i free_buffer))) → Changes L m code c
      buffer_grant_found {i} e h = found e h (ap (grant_buffer (view m) i) (sym (get_or-map view_buffer m.buffers i free_buffer)))

      pub station_grant_found : {i : ℕ} → r ≡ StationGrant i → Makes c (λ n. grant_station n i (view_station (get_or m.stations i free_station))) → Changes L m code c
      station_grant_found {i} e h = found e h (ap (grant_station (view m) i) (sym (get_or-map view_station m.stations i free_station)))

      pub release_found : {i : ℕ} → r ≡ Release i → Makes c (λ n. release_store n i (view_store (get_or m.stores i free_store))) → Changes L m code c
      release_found {i} e h = found e h (ap (release_store (view m) i) (sym (get_or-map view_store m.stores i free_store)))

pub ruleset no_slot_found = (no_step, issue_refused, issue_found)
