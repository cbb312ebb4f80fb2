-- A run from release to release (specs.ByReleases.antt) shows the theory's run (specs/Run.antt).
use mathlib.Core.Path.{◌≡◌, refl, sym, ap, ◌∙◌, subst}
use mathlib.Core.Bool.{Bool, true, false, cond}
use mathlib.Core.Option.{Option, none, some}
use mathlib.Core.List.{List, [], ◌∷◌, ◌++◌, map, append_assoc}
use Prim.Native.Nat.{ℕ, zero, suc, ◌+◌, ◌≤◌, ◌<◌}
use native.Mathlib.Numerals.{add-one}
use native.Mathlib.Nat.{not-suc-le-zero, lt-suc_self}
use native.Mathlib.Omega.{arith}
use lib.Dec.{ltb, eqb}
use lib.Ieee.{Float}
use lib.ListN.{length, set, drop, get_or, length-set, length-append, length-map}
use lib.Seq.{drop-cons, set-append_seam}
use borrow.Author.Tests.{eqb-true, le-ltb}
use Rattle.words.specs.Instructions.{list_limit}
use Rattle.theory_machine.specs.Machine as theory
use Rattle.theory_machine.specs.Machine.{Lent, areas_of, Shape}
use Rattle.theory_machine.specs.Binary64.{binary64}
use Rattle.theory_machine.specs.Steps.{in_order}
use Rattle.theory_machine.specs.Entries.{refusal_of_entry}
use Rattle.theory_machine.specs.Asked.{written}
use Rattle.theory_machine.proofs.Checks.{list_passed, order_passed}
use Rattle.theory_machine.proofs.Words.{passes}
use Rattle.theory_run.specs.Run.{ScheduleRun, run, not_begun, unlogged, logged_over}
use Rattle.machine_parts.specs.declared.Machine.{Machine}
use Rattle.machine_parts.specs.declared.Record.{Record}
use Rattle.machine_parts.specs.View.{view, view_record, lent}
use Rattle.machine_parts.specs.Back.{record_of}
use Rattle.machine_parts.proofs.Exact.{forth}
use Rattle.machine_take.specs.Taking.{Taken, take_from}
use Rattle.machine_steps.specs.Advance.{Progress, Stop, beginning, stays, stop_of, taken_on, goes, advanced, cells_after}
use Rattle.machine_steps.proofs.Segments.{state_at, on_from, SegmentBy, segment}
use Rattle.lent_run.specs.ByReleases.{Final, pick, runs, run_by_releases}
use Rattle.lent_run.specs.Run.{Shows, RunAnswer}

-- a record stored in a lent log after those of the run
map-set : {A B : Type 0} (f : A → B) (l : List A) (i : ℕ) (a : A) → map f (set l i a) ≡ set (map f l) i (f a)
map-set f [] i a = refl
map-set f (x ∷ l) zero a = refl
map-set f (x ∷ l) (suc i) a = ap (λ (m : List _). f x ∷ m) (map-set f l i a)

logged_more : (records log : List (theory.Record Float)) (r : theory.Record Float) → length records < length log
    → set (logged_over records log) (length records) r ≡ logged_over (records ++ r ∷ []) log
logged_more records log r h =
    ap (λ (l : List (theory.Record Float)). set (records ++ l) (length records) r) (drop-cons log (length records) r h)
    ∙ set-append_seam records (get_or log (length records) r) (drop (suc (length records)) log) r
    ∙ (rw (append_assoc, length-append, add-one) refl)

module _ (words : List ℕ) (operands : List Float) (results : ℕ) (schedule : List ℕ) (log₀ : List Record) where
  abbrev L : Lent Float
  L = record { words = words; operands = operands; results = results }

  abbrev room : ℕ
  room = length log₀

  -- where a run stands: what has been released, and turns enough for what is left
  pub record Stands (turns : ℕ) (p : Progress) (cells : List Float) (log : List Record) (released : List (theory.Record Float)) : Type 0 where
    pub going : p.going ≡ true
    pub enough : length schedule ≤ p.place + turns
    pub few : p.steps ≤ p.place
    pub rows : Shape (view p.machine)
    pub ordered : in_order binary64 L (view p.machine) ≡ true
    pub records : p.records ≡ length released
    pub area : length cells ≡ results
    pub so_far : map view_record log ≡ logged_over released (map view_record log₀)

  abbrev FinalShows : ScheduleRun Float → Final → Type 0
  FinalShows w f = Shows w log₀ f.run f.cells f.log

  abbrev theirs : (turns : ℕ) → Progress → List Float → List (theory.Record Float) → ScheduleRun Float
  theirs turns p cells released = on_from L room schedule turns (state_at (view p.machine) cells released) p.steps p.place

  -- one stop: what the codes taken come to
  module _ (k turns : ℕ) (p : Progress) (cells : List Float) (log : List Record) (released : List (theory.Record Float)) (s : Stands turns p cells log released) where
    abbrev of_stop : Taken → Option (theory.Record Float) → Final
    of_stop t o =
        let x : Stop = stop_of p t o in
        pick x.released (runs k x.progress words operands (written cells o) schedule room (set log x.index x.made)) (record { run = x.progress; cells = written cells o; log = log })

    -- the same, if the run goes on at all
    abbrev of_goes : Bool → Taken → Final
    of_goes b t =
        let x : Stop = cond b (stop_of p t t.released) (stays p) in
        let cells' : List Float = cond b (written cells t.released) cells in
        pick x.released (runs k x.progress words operands cells' schedule room (set log x.index x.made)) (record { run = x.progress; cells = cells'; log = log })

    module _ (later : (turns : ℕ) → turns < k → (p : Progress) (cells : List Float) (log : List Record) (released : List (theory.Record Float)) → Stands turns p cells log released
        → FinalShows (theirs turns p cells released) (runs k p words operands cells schedule room log)) where
      at-stop : (w : ScheduleRun Float) (t : Taken) (o : Option (theory.Record Float)) → SegmentBy L room schedule k cells released o t w → FinalShows w (of_stop t o)
      at-stop w t none e = subst (λ (w : ScheduleRun Float). FinalShows w (of_stop t none)) (sym e) (record {
        machine = forth t.machine;
        steps = refl;
        place = refl;
        refusal = refl;
        records = s.records;
        over = refl;
        cells = refl;
        log = s.so_far;
      })
      at-stop w t (some r) e =
          let q : Progress = (stop_of p t (some r)).progress in
          let cells' : List Float = written cells (some r) in
          let log' : List Record = set log p.records (record_of r) in
          let f = sym (forth t.machine) in
          let there : Stands e.turns q cells' log' (released ++ r ∷ []) = record {
            going = refl;
            enough = e.enough;
            few = e.few;
            rows = subst Shape f e.rows;
            ordered = subst (λ (m : theory.Machine Float). in_order binary64 L m ≡ true) f e.ordered;
            records = rw (length-append, s.records) refl;
            area = length-set cells r.cell r.number ∙ s.area;
            so_far = map-set view_record log p.records (record_of r)
                ∙ (λ i. set (s.so_far i) (s.records i) r)
                ∙ logged_more released (map view_record log₀) r (rw length-map e.fits);
          } in
          let same : w ≡ theirs e.turns q cells' (released ++ r ∷ []) =
          e.same ∙ ap (λ (m : theory.Machine Float). on_from L room schedule e.turns (state_at m cells' (released ++ r ∷ [])) t.steps t.place) f in
          subst (λ (w : ScheduleRun Float). FinalShows w (of_stop t (some r))) (sym same) (later e.turns e.fewer q cells' log' (released ++ r ∷ []) there)

      one-stop : length words ≤ list_limit → turns ≤ k → FinalShows (theirs turns p cells released) (runs (suc k) p words operands cells schedule room log)
      unfolding runs advanced cells_after
      one-stop short le =
          let t : Taken = taken_on p words operands cells schedule room in
          let t' : Taken = take_from L (ltb (length released) room) schedule (length schedule) (view p.machine) p.steps p.place in
          let same : t ≡ t' =
          λ i. take_from (record { words = words; operands = operands; results = s.area i }) (ltb (s.records i) room) schedule (length schedule) (view p.machine) p.steps p.place in
          let on : goes p words operands cells schedule room ≡ true = (rw (s.going, le-ltb p.place p.steps s.few) refl) in
          subst (λ (b : Bool). FinalShows (theirs turns p cells released) (of_goes b t)) (sym on)
          (subst (λ (t : Taken). FinalShows (theirs turns p cells released) (of_stop t t.released)) (sym same)
          (at-stop (theirs turns p cells released) t' t'.released
          (segment L room schedule k cells released short (length schedule) turns le (view p.machine) p.steps p.place (omega arith) s.enough s.few s.rows s.ordered)))

  shows : length words ≤ list_limit → (k turns : ℕ) → turns < k → (p : Progress) (cells : List Float) (log : List Record) (released : List (theory.Record Float)) → Stands turns p cells log released
      → FinalShows (theirs turns p cells released) (runs k p words operands cells schedule room log)
  shows short zero turns h p cells log released s = absurd (not-suc-le-zero h)
  shows short (suc k) turns h p cells log released s = one-stop k turns p cells log released s (shows short k) short (omega arith)

module _ (m : Machine) (words : List ℕ) (operands cells : List Float) (schedule : List ℕ) (log : List Record) where
  abbrev of_list : Lent Float
  of_list = lent words operands cells

  -- with this refusal a run begins, or does not
  abbrev whole : (refusal : ℕ) → (going : Bool) → Final
  whole number b =
      runs (suc (length schedule)) (record { machine = m; steps = 0; place = 0; refusal = number; records = 0; going = b }) words operands cells schedule (length log) log

  abbrev Begins : ScheduleRun Float → Final → Type 0
  Begins = FinalShows words operands (length cells) schedule log

  not_begun_lem : (number : ℕ) → Begins (not_begun binary64 of_list (length log) schedule (view m) cells number) (whole number false)
  unfolding runs advanced cells_after
  not_begun_lem number = record { machine = refl; steps = refl; place = refl; refusal = refl; records = refl; over = refl; cells = refl; log = refl }

  abbrev entry : ℕ
  entry = refusal_of_entry binary64 of_list (view m)

  abbrev paper : (passed : Bool) → ScheduleRun Float
  paper passed =
      cond passed (on_from of_list (length log) schedule (length schedule) (unlogged binary64 of_list (length log) schedule (view m) cells) 0 0)
      (not_begun binary64 of_list (length log) schedule (view m) cells entry)

  module _ (S : Shape (view m)) where
    by-entry : (a : Bool) → eqb entry 0 ≡ a → Begins (paper a) (whole entry a)
    by-entry false e = not_begun_lem entry
    by-entry true e =
        let z : entry ≡ 0 = eqb-true entry 0 e in
        subst (λ (n : ℕ). Begins (paper true) (whole n true)) (sym z)
        (shows words operands (length cells) schedule log (passes binary64 of_list (list_passed binary64 words (areas_of of_list) (view m) z)).short (suc (length schedule)) (length schedule) (lt-suc_self (length schedule))
        (record { machine = m; steps = 0; place = 0; refusal = 0; records = 0; going = true }) cells log []
        (record {
          going = refl;
          enough = omega arith;
          few = omega arith;
          rows = S;
          ordered = order_passed binary64 words (areas_of of_list) (view m) z;
          records = refl;
          area = refl;
          so_far = refl;
        }))

    shows-run : Begins (run binary64 of_list (length log) schedule (view m) cells) (run_by_releases m words operands cells schedule log)
    unfolding run beginning
    shows-run = by-entry (eqb entry 0) refl

    -- what the loop has come to is the answer of the theory's run
    pub run-answers : {r : Progress} {cells' : List Float} {log' : List Record} → record { run = r; cells = cells'; log = log' } ≡ run_by_releases m words operands cells schedule log
        → RunAnswer words operands m cells schedule log r cells' log'
    run-answers e = subst (λ (f : Final). Begins (run binary64 of_list (length log) schedule (view m) cells) f) (sym e) shows-run
