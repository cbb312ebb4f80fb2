-- The loop of a run whose log is a row of words: with each stop at a release, three more words stand in it.
use mathlib.Core.Path.{◌≡◌, refl, sym, ap, ◌∙◌, subst}
use mathlib.Core.Bool.{Bool, true, false, cond, ◌&&◌}
use mathlib.Core.Option.{Option, none, some}
use mathlib.Core.List.{List, [], ◌∷◌, ◌++◌, map}
use Prim.Native.Nat.{ℕ, zero, suc, ◌+◌, ◌*◌, ◌≤◌, ◌<◌, ◌/◌}
use native.Mathlib.Nat.{not-suc-le-zero, zero-add}
use native.Mathlib.Numerals.{add-one}
use native.Mathlib.Omega.{arith}
use lib.Dec.{ltb}
use lib.Ieee.{Float}
use lib.ListN.{length, set, take, replicate, length-set, length-replicate}
use lib.Seq.{sets, length-sets, set_out, length-take-le, take_all, take-suc-set, take-append_seam}
use borrow.Author.Tests.{ltb-true, ltb-false}
use Rattle.theory_machine.specs.Machine as theory
use Rattle.theory_machine.specs.Machine.{Shape}
use Rattle.theory_run.specs.Run.{ScheduleRun, run}
use Rattle.theory_machine.specs.Binary64.{binary64}
use Rattle.machine_parts.specs.declared.Machine.{Machine}
use Rattle.machine_parts.specs.declared.Record.{Record}
use Rattle.machine_parts.specs.View.{view, view_record, lent}
use Rattle.machine_take.specs.Taking.{Taken}
use Rattle.machine_steps.specs.Advance.{Progress, Stop, beginning, blank, stays, stop_of, taken_on, goes, advanced, cells_after}
use Rattle.list_file.proofs.Laid.{sets_append}
use Rattle.lent_run.specs.ByReleases.{Final, pick, runs, left, run_by_releases}
use Rattle.lent_run.specs.Run.{Shows}
use Rattle.lent_run.proofs.Answers.{run-answers}
use Rattle.lent_run.proofs.Onward.{progress}
use Rattle.lent_run.proofs.ByReleasesLaws.{goes_on_lem, is-over}
use Rattle.wethertide.specs.Entries.{record_words, log_words, room_in, RunLogged, run_in}
use Rattle.wethertide.specs.Logging.{logged_stop}

-- WORDS OF RECORDS
abbrev row_words : List Record → List ℕ
row_words log = log_words (map view_record log)

log_more : (log : List Record) (r : Record) → row_words (log ++ r ∷ []) ≡ row_words log ++ record_words (view_record r)
log_more [] r = refl
log_more (x ∷ log) r = ap (λ (ws : List ℕ). record_words (view_record x) ++ ws) (log_more log r)

log-length : (log : List Record) → length (row_words log) ≡ length log * 3
log-length [] = refl
log-length (x ∷ log) = let e = log-length log in omega (arith, e)

-- a record more in the row of words
laid_more : (row : List ℕ) (log : List Record) (r : Record) → sets (sets row 0 (row_words log)) (length log * 3) (record_words (view_record r)) ≡ sets row 0 (row_words (log ++ r ∷ []))
laid_more row log r =
    sym
    (ap (sets row 0) (log_more log r)
    ∙ sets_append row 0 (row_words log) (record_words (view_record r))
    ∙ ap (λ (n : ℕ). sets (sets row 0 (row_words log)) n (record_words (view_record r))) (zero-add (length (row_words log)) ∙ log-length log))

map-take : (log : List Record) (n : ℕ) → map view_record (take n log) ≡ take n (map view_record log)
map-take log zero = refl
map-take [] (suc n) = refl
map-take (x ∷ log) (suc n) = ap (λ (rs : List (theory.Record Float)). view_record x ∷ rs) (map-take log n)

-- WHAT A STOP SAYS OF ITS RECORD
abbrev Told : Bool → Progress → Stop → Type 0
Told true r s = (s.index ≡ r.records) × (s.progress.records ≡ r.records + 1)
Told false r s = s.progress.records ≡ r.records

module _ (r : Progress) where
  told-by : (g : Bool) (t : Taken) (o : Option (theory.Record Float)) → let s : Stop = cond g (stop_of r t o) (stays r) in Told s.released r s
  told-by true t none = refl
  told-by true t (some x) = (refl, refl)
  told-by false t o = refl

  told : (words : List ℕ) (operands cells : List Float) (schedule : List ℕ) (room : ℕ) (s : Stop) → s ≡ advanced r words operands cells schedule room → Told s.released r s
  unfolding advanced
  told words operands cells schedule room s e =
      subst (λ (s : Stop). Told s.released r s) (sym e)
      (told-by (goes r words operands cells schedule room) (taken_on r words operands cells schedule room) (taken_on r words operands cells schedule room).released)

module _ (start : Progress) (words : List ℕ) (operands cells₀ : List Float) (schedule row₀ : List ℕ) where
  abbrev room : ℕ
  room = room_in row₀

  abbrev log₀ : List Record
  log₀ = replicate room blank

  -- what the loop comes to, with a log of records beside the row of words
  abbrev whole : Final
  whole = runs (suc (length schedule)) start words operands cells₀ schedule room log₀

  -- where the loop stands
  pub record Logs (r : Progress) (going : Bool) (cells : List Float) (row : List ℕ) : Type 0 where
    pub turns : ℕ
    pub log : List Record
    pub few : left r schedule < turns
    pub full : length log ≡ room
    pub same : length row ≡ length row₀
    pub area : length cells ≡ length cells₀
    pub laid : row ≡ sets row₀ 0 (row_words (take r.records log))
    pub comes : whole ≡ pick going (runs turns r words operands cells schedule room log) (record { run = r; cells = cells; log = log })

  pub logs_none : start.records ≡ 0 → Logs start true cells₀ row₀
  logs_none e = record {
    turns = suc (length schedule);
    log = log₀;
    few = omega arith;
    full = length-replicate room blank;
    same = refl;
    area = refl;
    laid = ap (λ (n : ℕ). sets row₀ 0 (row_words (take n log₀))) (sym e);
    comes = refl;
  }

  module _ (r : Progress) (cells : List Float) (row : List ℕ) where
    -- the record of a stop: where there is room it stands after the others, else nothing is stored
    stored : (log : List Record) (n : ℕ) (made : Record) → length log ≡ room → (fits : Bool) → ltb n room ≡ fits → row ≡ sets row₀ 0 (row_words (take n log))
        → cond fits (sets row (n * 3) (record_words (view_record made))) row ≡ sets row₀ 0 (row_words (take (n + 1) (set log n made)))
    stored log n made full true f laid =
        let h : n < length log = rw full (ltb-true n room f) in
        (λ i. sets (laid i) (sym (length-take-le n log (omega arith)) i * 3) (record_words (view_record made)))
        ∙ laid_more row₀ (take n log) made
        ∙ ap (λ (l : List Record). sets row₀ 0 (row_words l)) (sym (take-suc-set log n made h) ∙ ap (λ (k : ℕ). take k (set log n made)) (sym (add-one n)))
    stored log n made full false f laid =
        let h : length log ≤ n = rw full (ltb-false n room f) in
        laid
        ∙ ap (λ (l : List Record). sets row₀ 0 (row_words l)) (take_all n log h ∙ sym (ap (take (n + 1)) (set_out log n made h) ∙ take_all (n + 1) log (omega arith)))

    module _ (s : Stop) (cells' : List Float) (row' : List ℕ) (e : s ≡ advanced r words operands cells schedule room)
        (e' : cells' ≡ cells_after r words operands cells schedule room) (e'' : row' ≡ logged_stop row s) (kept : length cells' ≡ length cells) where
      kept-length : length row ≡ length row₀ → (b : Bool) → length (cond b (sets row (s.index * 3) (record_words (view_record s.made))) row) ≡ length row₀
      kept-length same true = length-sets row (s.index * 3) (record_words (view_record s.made)) ∙ same
      kept-length same false = same

      stop-at : (b : Bool) → s.released ≡ b → Told b r s → (turns : ℕ) (log : List Record) → left r schedule < turns → length log ≡ room → length row ≡ length row₀ → length cells ≡ length cells₀ → row ≡ sets row₀ 0 (row_words (take r.records log))
          → whole ≡ runs turns r words operands cells schedule room log → Logs s.progress b cells' row'
      stop-at b h t zero log few full same area laid comes = absurd (not-suc-le-zero few)
      stop-at true h t (suc k) log few full same area laid comes =
          let fewer : left s.progress schedule < left r schedule =
          subst (λ (s : Stop). left s.progress schedule < left r schedule) (sym e) (progress words operands schedule room r cells (sym (ap (λ (s : Stop). s.released) e) ∙ h)) in
          record {
            turns = k;
            log = set log s.index s.made;
            few = omega (arith, fewer, few);
            full = length-set log s.index s.made ∙ full;
            area = kept ∙ area;
            same = ap length e'' ∙ kept-length same (s.released && ltb s.index (room_in row));
            laid = e''
                ∙ (λ i. cond (h i && ltb (t.0 i) (same i / 3)) (sets row (t.0 i * 3) (record_words (view_record s.made))) row)
                ∙ stored log r.records s.made full (ltb r.records room) refl laid
                ∙ (λ i. sets row₀ 0 (row_words (take (sym t.1 i) (set log (sym t.0 i) s.made))));
            comes = comes ∙ sym (goes_on_lem words operands schedule room k r cells log s cells' e e' h);
          }
      stop-at false h t (suc k) log few full same area laid comes = record {
        turns = suc (left s.progress schedule);
        log = log;
        few = omega arith;
        full = full;
        area = kept ∙ area;
        same = ap length e'' ∙ kept-length same (s.released && ltb s.index (room_in row));
        laid = e''
            ∙ (λ i. cond (h i && ltb s.index (room_in row)) (sets row (s.index * 3) (record_words (view_record s.made))) row)
            ∙ laid
            ∙ (λ i. sets row₀ 0 (row_words (take (sym t i) log)));
        comes = comes ∙ sym (is-over words operands schedule room k r cells log s cells' e e' h);
      }

      pub logs_stop : {going : Bool} → going ≡ true → Logs r going cells row → Logs s.progress s.released cells' row'
      logs_stop g l =
          stop-at s.released refl (told r words operands cells schedule room s e) l.turns l.log l.few l.full l.same l.area l.laid
          (l.comes ∙ ap (λ (b : Bool). pick b (runs l.turns r words operands cells schedule room l.log) (record { run = r; cells = cells; log = l.log })) g)

      -- what is left falls
      pub logs_less : {going : Bool} → going ≡ true → Logs r going cells row → cond s.released (suc (left s.progress schedule)) 0 < cond going (suc (left r schedule)) 0
      logs_less g l = subst (λ (b : Bool). cond s.released (suc (left s.progress schedule)) 0 < cond b (suc (left r schedule)) 0) (sym g) (by-released s.released refl) where
        by-released : (b : Bool) → s.released ≡ b → cond b (suc (left s.progress schedule)) 0 < suc (left r schedule)
        by-released true h =
            let fewer : left s.progress schedule < left r schedule =
            subst (λ (s : Stop). left s.progress schedule < left r schedule) (sym e) (progress words operands schedule room r cells (sym (ap (λ (s : Stop). s.released) e) ∙ h)) in
            omega (arith, fewer)
        by-released false h = omega arith

  -- at its end the loop has come to the run
  pub logs_run : (m : Machine) → start ≡ beginning m words operands (length cells₀) → Shape (view m) → {r : Progress} {going : Bool} {cells : List Float} {row : List ℕ} → going ≡ false → Logs r going cells row
      → RunLogged (run_in words operands (view m) cells₀ schedule row₀) row₀ r cells row
  logs_run m b S {r = r} {cells = cells} g l =
      let n : length log₀ ≡ room = length-replicate room blank in
      let f : record { run = r; cells = cells; log = l.log } ≡ run_by_releases m words operands cells₀ schedule log₀ =
      sym (l.comes ∙ ap (λ (b : Bool). pick b (runs l.turns r words operands cells schedule room l.log) (record { run = r; cells = cells; log = l.log })) g)
      ∙ (λ i. runs (suc (length schedule)) (b i) words operands cells₀ schedule (sym n i) log₀) in
      let w : ScheduleRun Float = run_in words operands (view m) cells₀ schedule row₀ in
      let a : Shows w log₀ r cells l.log =
      subst (λ (n : ℕ). Shows (run binary64 (lent words operands cells₀) n schedule (view m) cells₀) log₀ r cells l.log) n (run-answers m words operands cells₀ schedule log₀ S f) in
      record {
        machine = a.machine;
        steps = a.steps;
        place = a.place;
        refusal = a.refusal;
        records = a.records;
        after = a.cells;
        logged = l.laid
            ∙ ap (λ (rs : List (theory.Record Float)). sets row₀ 0 (log_words rs))
            (map-take l.log r.records ∙ (λ i. take (a.records i) (a.log i)) ∙ take-append_seam w.state.log _);
      }

pub none_at_first : (m : Machine) (words : List ℕ) (operands : List Float) (results : ℕ) → (beginning m words operands results).records ≡ 0
unfolding beginning
none_at_first m words operands results = refl
