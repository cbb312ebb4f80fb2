-- Codes and the steps that they name: laws of any table whose rows ascend, as those of 01's do.
use mathlib.Core.Path.{◌≡◌, refl, ap, ◌∙◌}
use mathlib.Core.Bool.{Bool, true, cond, ◌&&◌}
use mathlib.Core.List.{List, [], ◌∷◌}
use Prim.Native.Nat.{ℕ, zero, suc, ◌+◌, ◌-◌, ◌≤◌, ◌<◌}
use native.Mathlib.Omega.{arith}
use native.Mathlib.Nat.{not-suc-le-zero}
use lib.Dec.{ltb, leb}
use lib.ListN.{length, get_or}
use borrow.Author.Tests.{leb-true, ltb-true, ltb-false}
use Rattle.theory_machine.specs.Rows.{between, Every}
use Rattle.theory_machine.specs.Tags.{buffer_count, station_count, store_count}
use Rattle.theory_machine.specs.Codes.{Step, unknown_code, issue, arrival, completion, buffer_grant, station_grant, release, CodeRow, first_code, last_code, code_table, step_in, step_of, limit_of, code_limit}
use Rattle.theory_machine.proofs.Rows.{cond_cases, and_l, and_r, inside, above, beneath, within}

abbrev no_row : CodeRow
no_row = record { base = 0; first = 0; last = 0; step = λ i. unknown_code }

abbrev pub row_in : List CodeRow → (k : ℕ) → CodeRow
row_in rows k = get_or rows k no_row

-- each row has its codes from n on, above those of the rows before it
abbrev ascends : ℕ → List CodeRow → Bool
ascends n [] = true
ascends n (r ∷ rows) = leb n (first_code r) && (leb (first_code r) (last_code r) && ascends (suc (last_code r)) rows)

record Ascends (n : ℕ) (r : CodeRow) (rows : List CodeRow) : Type 0 where
  from : n ≤ first_code r
  some : first_code r ≤ last_code r
  then : ascends (suc (last_code r)) rows ≡ true

ascending : (n : ℕ) (r : CodeRow) (rows : List CodeRow) → ascends n (r ∷ rows) ≡ true → Ascends n r rows
ascending n r rows a =
    let rest : leb (first_code r) (last_code r) && ascends (suc (last_code r)) rows ≡ true = and_r (leb n (first_code r)) _ a in
    record {
      from = leb-true n (first_code r) (and_l (leb n (first_code r)) _ a);
      some = leb-true (first_code r) (last_code r) (and_l (leb (first_code r) (last_code r)) _ rest);
      then = and_r (leb (first_code r) (last_code r)) _ rest;
    }

begins : (n : ℕ) (rows : List CodeRow) → ascends n rows ≡ true → (k : ℕ) → k < length rows → n ≤ first_code (row_in rows k)
begins n [] a k h = absurd (not-suc-le-zero h)
begins n (r ∷ rows) a zero h = (ascending n r rows a).from
begins n (r ∷ rows) a (suc k) h = let s = ascending n r rows a in omega (arith, begins (suc (last_code r)) rows s.then k (omega arith), s.from, s.some)

-- a code below all rows, or in row k, or between row k and the next one
below : (n : ℕ) (rows : List CodeRow) → ascends n rows ≡ true → (code : ℕ) → code < n → step_in rows code ≡ unknown_code
below n [] a code h = refl
below n (r ∷ rows) a code h =
    let s = ascending n r rows a in
    rw (beneath (first_code r) (last_code r) code (omega (arith, s.from)), below (suc (last_code r)) rows s.then code (omega (arith, s.from, s.some)))

in_row : (n : ℕ) (rows : List CodeRow) → ascends n rows ≡ true → (k : ℕ) → k < length rows → (code : ℕ) → first_code (row_in rows k) ≤ code
    → code ≤ last_code (row_in rows k) → step_in rows code ≡ (row_in rows k).step (code - first_code (row_in rows k))
in_row n [] a k b code l h = absurd (not-suc-le-zero b)
in_row n (r ∷ rows) a zero b code l h = rw (inside (first_code r) (last_code r) code l h)
in_row n (r ∷ rows) a (suc k) b code l h =
    let s = ascending n r rows a in
    rw (above (first_code r) (last_code r) code (omega (arith, begins (suc (last_code r)) rows s.then k (omega arith))))
    (in_row (suc (last_code r)) rows s.then k (omega arith) code l h)

after-row : (n : ℕ) (rows : List CodeRow) → ascends n rows ≡ true → (k : ℕ) → k < length rows → (code : ℕ) → last_code (row_in rows k) < code
    → (suc k < length rows → code < first_code (row_in rows (suc k))) → step_in rows code ≡ unknown_code
after-row n [] a k b code l h = absurd (not-suc-le-zero b)
after-row n (r ∷ []) a zero b code l h = rw (above (first_code r) (last_code r) code l)
after-row n (r ∷ (q ∷ rows)) a zero b code l h =
    let s = ascending n r (q ∷ rows) a in
    let t = ascending (suc (last_code r)) q rows s.then in
    let z : code < first_code q = h (omega arith) in
    rw (above (first_code r) (last_code r) code l, beneath (first_code q) (last_code q) code z)
    (below (suc (last_code q)) rows t.then code (omega (arith, t.some)))
after-row n (r ∷ rows) a (suc k) b code l h =
    let s = ascending n r rows a in
    rw (above (first_code r) (last_code r) code (omega (arith, begins (suc (last_code r)) rows s.then k (omega arith), some-codes (suc (last_code r)) rows s.then k (omega arith))))
    (after-row (suc (last_code r)) rows s.then k (omega arith) code l (λ z. h (omega arith)))
  where
    some-codes : (n : ℕ) (rows : List CodeRow) → ascends n rows ≡ true → (k : ℕ) → k < length rows → first_code (row_in rows k) ≤ last_code (row_in rows k)
    some-codes n [] a k b = absurd (not-suc-le-zero b)
    some-codes n (r ∷ rows) a zero b = (ascending n r rows a).some
    some-codes n (r ∷ rows) a (suc k) b = some-codes (suc (last_code r)) rows (ascending n r rows a).then k (omega arith)

-- THE LIMIT: above every code

higher_of : (a b : ℕ) → let h = cond (ltb a b) b a in (a ≤ h) × (b ≤ h)
higher_of a b = cond_cases (λ (n : ℕ). (a ≤ n) × (b ≤ n)) (ltb a b) (λ e. (omega (arith, ltb-true a b e), omega arith)) (λ e. (omega arith, ltb-false a b e))

beyond : (rows : List CodeRow) (code : ℕ) → limit_of rows ≤ code → step_in rows code ≡ unknown_code
beyond [] code h = refl
beyond (r ∷ rows) code h =
    let l = higher_of (suc (last_code r)) (limit_of rows) in
    rw (above (first_code r) (last_code r) code (omega (arith, l.0))) (beyond rows code (omega (arith, l.1)))

below_limit : (rows : List CodeRow) (k : ℕ) → k < length rows → last_code (row_in rows k) < limit_of rows
below_limit [] k b = absurd (not-suc-le-zero b)
below_limit (r ∷ rows) zero b = omega (arith, (higher_of (suc (last_code r)) (limit_of rows)).0)
below_limit (r ∷ rows) (suc k) b = omega (arith, (higher_of (suc (last_code r)) (limit_of rows)).1, below_limit rows k (omega arith))

-- THE TABLE OF 01

table_ascends : ascends 0 code_table ≡ true
table_ascends = refl

module _ (k : ℕ) (known : k < length code_table) where
  pub code_in : (code : ℕ) → first_code (row_in code_table k) ≤ code → code ≤ last_code (row_in code_table k)
      → step_of code ≡ (row_in code_table k).step (code - first_code (row_in code_table k))
  unfolding step_of
  code_in = in_row 0 code_table table_ascends k known

  pub code-after : (code : ℕ) → last_code (row_in code_table k) < code → (suc k < length code_table → code < first_code (row_in code_table (suc k)))
      → step_of code ≡ unknown_code
  unfolding step_of
  code-after = after-row 0 code_table table_ascends k known

  -- the code of slot i
  pub code_of : (i : ℕ) → first_code (row_in code_table k) + i ≤ last_code (row_in code_table k)
      → step_of (first_code (row_in code_table k) + i) ≡ (row_in code_table k).step i
  code_of i h = code_in (first_code (row_in code_table k) + i) (omega arith) h ∙ ap (row_in code_table k).step (omega arith)

  pub code-limited : last_code (row_in code_table k) < code_limit
  code-limited = below_limit code_table k known

pub unknown_beyond : (code : ℕ) → code_limit ≤ code → step_of code ≡ unknown_code
unfolding step_of
unknown_beyond = beyond code_table

-- the index of a step that a code names is in its row
abbrev pub InRange : Step → Type 0
InRange unknown_code = Unit
InRange issue = Unit
InRange (arrival i) = i < buffer_count
InRange (completion i) = i < station_count
InRange (buffer_grant i) = i < buffer_count
InRange (station_grant i) = i < station_count
InRange (release i) = i < store_count

abbrev RowInRange : CodeRow → Type 0
RowInRange r = (i : ℕ) → first_code r + i ≤ last_code r → InRange (r.step i)

range_in : (rows : List CodeRow) → Every RowInRange rows → (code : ℕ) → InRange (step_in rows code)
range_in [] f code = tt
range_in (r ∷ rows) f code =
    cond_cases InRange (between (first_code r) (last_code r) code)
    (λ e. let w = within (first_code r) (last_code r) code e in f.0 (code - first_code r) (omega (arith, w.0, w.1)))
    (λ _. range_in rows f.1 code)

pub in_range : (code : ℕ) → InRange (step_of code)
unfolding step_of
in_range =
    range_in code_table
    (λ i h. tt, (λ i h. omega arith, (λ i h. omega arith, (λ i h. omega arith, (λ i h. omega arith, (λ i h. omega arith, tt))))))

-- the rows of 01's table, by their steps
abbrev pub of_issue : ℕ
of_issue = 0

abbrev pub of_arrival : ℕ
of_arrival = 1

abbrev pub of_completion : ℕ
of_completion = 2

abbrev pub of_buffer_grant : ℕ
of_buffer_grant = 3

abbrev pub of_station_grant : ℕ
of_station_grant = 4

abbrev pub of_release : ℕ
of_release = 5
