-- Tests, ranges of indices, rows read by get_or and altered by set and map, sums. Nothing here knows of the machine.
use mathlib.Core.Path.{◌≡◌, refl, sym, ◌∙◌, subst}
use mathlib.Core.Bool.{Bool, true, false, cond, ◌&&◌, ◌||◌}
use mathlib.Core.Option.{Option, none, some}
use mathlib.Core.Logic.{◌⊎◌, inl, inr, ⊎_elim, ◌≢◌}
use mathlib.Core.List.{List, [], ◌∷◌, ◌++◌, map}
use Prim.Native.Nat.{ℕ, zero, suc, ◌+◌, ◌≤◌, ◌<◌}
use native.Mathlib.Omega.{arith}
use native.Mathlib.Nat.{not-suc-le-zero, le_of_suc-le-suc}
use lib.Dec.{T, ltb, leb}
use lib.ListN.{length, get_or, set, replicate, get_or-eq_default}
use lib.Seq.{get_or-set_same, get_or-set_other}
use borrow.Author.Tests.{ltb-true, ltb-false, leb-true, le-leb, lt-leb}
use Rattle.words.proofs.Known.{eqb_cases}
use Rattle.theory_machine.specs.Rows.{all_of, all_below, first, between, sum, Every}

-- TESTS

pub bool_cases : (b : Bool) → (b ≡ true) ⊎ (b ≡ false)
bool_cases true = inl refl
bool_cases false = inr refl

-- a choice, and which arm it was
pub cond_cases {ℓ κ} : {A : Type ℓ} (Q : A → Type κ) (b : Bool) {x y : A} → (b ≡ true → Q x) → (b ≡ false → Q y) → Q (cond b x y)
cond_cases Q true f g = f refl
cond_cases Q false f g = g refl

-- one test, two choices by it
pub both_cases : {A B : Type 0} (Q : A → B → Type 0) (b : Bool) {x y : A} {u v : B} → (b ≡ true → Q x u) → (b ≡ false → Q y v) → Q (cond b x y) (cond b u v)
both_cases Q true f g = f refl
both_cases Q false f g = g refl

pub and_l : (a b : Bool) → a && b ≡ true → a ≡ true
and_l true b e = refl
and_l false b e = e

pub and_r : (a b : Bool) → a && b ≡ true → b ≡ true
and_r true b e = e
and_r false b e = cc

pub and_i : {a b : Bool} → a ≡ true → b ≡ true → a && b ≡ true
and_i p q = cc

pub or_r : (a b : Bool) → a || b ≡ true → a ≡ false → b ≡ true
or_r true b e f = cc
or_r false b e f = e

pub or_i : (a b : Bool) → (a ≡ false → b ≡ true) → a || b ≡ true
or_i true b f = refl
or_i false b f = f refl

pub absurd_bool {ℓ} : {X : Type ℓ} {b : Bool} → b ≡ true → b ≡ false → X
absurd_bool p q = absurd (subst T (sym p ∙ q) tt)

pub all_of-at : (l : List Bool) → all_of l ≡ true → (k : ℕ) → get_or l k true ≡ true
all_of-at [] e k = refl
all_of-at (b ∷ bs) e zero = and_l b (all_of bs) e
all_of-at (b ∷ bs) e (suc k) = all_of-at bs (and_r b (all_of bs) e) k

pub inside : (lo hi x : ℕ) → lo ≤ x → x ≤ hi → between lo hi x ≡ true
inside lo hi x a b = and_i (le-leb lo x a) (le-leb x hi b)

pub above : (lo hi x : ℕ) → hi < x → between lo hi x ≡ false
above lo hi x a = ⊎_elim (λ (e : leb lo x ≡ true). rw (e, lt-leb x hi a)) (λ (e : leb lo x ≡ false). rw e) (bool_cases (leb lo x))

pub beneath : (lo hi x : ℕ) → x < lo → between lo hi x ≡ false
beneath lo hi x a = rw (lt-leb lo x a)

pub within : (lo hi x : ℕ) → between lo hi x ≡ true → (lo ≤ x) × (x ≤ hi)
within lo hi x e = (leb-true lo x (and_l (leb lo x) (leb x hi) e), leb-true x hi (and_r (leb lo x) (leb x hi) e))

-- RANGES OF INDICES

pub all_below-at : (n : ℕ) (p : ℕ → Bool) → all_below n p ≡ true → (i : ℕ) → i < n → p i ≡ true
all_below-at zero p e i h = absurd (not-suc-le-zero h)
all_below-at (suc n) p e i h =
    ⊎_elim (λ (q : i ≡ n). rw q (and_l (p n) (all_below n p) e))
    (λ (q : i ≢ n). all_below-at n p (and_r (p n) (all_below n p) e) i (omega arith))
    (eqb_cases i n)

pub all_below_of : (n : ℕ) (p : ℕ → Bool) → ((i : ℕ) → i < n → p i ≡ true) → all_below n p ≡ true
all_below_of zero p f = refl
all_below_of (suc n) p f = and_i (f n (omega arith)) (all_below_of n p (λ i h. f i (omega arith)))

-- a test that fails somewhere below n, and where
pub all_below_not : (n : ℕ) (p : ℕ → Bool) → all_below n p ≡ false → (i : ℕ) × (i < n) × (p i ≡ false)
all_below_not zero p e = absurd_bool refl e
all_below_not (suc n) p e =
    ⊎_elim (λ (q : p n ≡ true). let r = all_below_not n p (rw q at e) in (r.0, omega (arith, r.1), r.2))
    (λ (q : p n ≡ false). (n, omega arith, q))
    (bool_cases (p n))

pub record IsFirst (p : ℕ → Bool) (lo n i : ℕ) : Type 0 where
  pub low : lo ≤ i
  pub high : i < lo + n
  pub holds : p i ≡ true
  pub least : (j : ℕ) → lo ≤ j → j < i → p j ≡ false

-- what a search found, or that it found nothing
abbrev pub Search : (ℕ → Bool) → (lo n : ℕ) → Option ℕ → Type 0
Search p lo n none = (j : ℕ) → lo ≤ j → j < lo + n → p j ≡ false
Search p lo n (some i) = IsFirst p lo n i

pub search_view : (p : ℕ → Bool) (lo n : ℕ) → Search p lo n (first p lo n)
search_view p lo zero = λ j a b. absurd (omega arith)
search_view p lo (suc n) =
    cond_cases (Search p lo (suc n)) (p lo)
    (λ q. record { low = omega arith; high = omega arith; holds = q; least = λ j a b. absurd (omega arith) })
    (λ q. later q (first p (suc lo) n) (search_view p (suc lo) n))
  where
    later : p lo ≡ false → (o : Option ℕ) → Search p (suc lo) n o → Search p lo (suc n) o
    later q none f = λ j a b. ⊎_elim (λ (s : j ≡ lo). rw s q) (λ (s : j ≢ lo). f j (omega arith) (omega arith)) (eqb_cases j lo)
    later q (some i) f = record {
      low = omega (arith, f.low);
      high = omega (arith, f.high);
      holds = f.holds;
      least = λ j a b. ⊎_elim (λ (s : j ≡ lo). rw s q) (λ (s : j ≢ lo). f.least j (omega arith) b) (eqb_cases j lo);
    }

pub first_some : (p : ℕ → Bool) (lo n i : ℕ) → first p lo n ≡ some i → IsFirst p lo n i
first_some p lo n i e = subst (Search p lo n) e (search_view p lo n)

pub first_none : (p : ℕ → Bool) (lo n : ℕ) → first p lo n ≡ none → (j : ℕ) → lo ≤ j → j < lo + n → p j ≡ false
first_none p lo n e = subst (Search p lo n) e (search_view p lo n)

-- the search finds something where the test holds somewhere
pub first_found : (p : ℕ → Bool) (lo n j : ℕ) → lo ≤ j → j < lo + n → p j ≡ true → (i : ℕ) × (first p lo n ≡ some i)
first_found p lo n j a b h = go (first p lo n) refl
  where
    go : (o : Option ℕ) → first p lo n ≡ o → (i : ℕ) × (first p lo n ≡ some i)
    go none e = absurd_bool h (first_none p lo n e j a b)
    go (some i) e = (i, e)

-- ROWS

module _ {A : Type 0} where
  -- what holds at every index still holds after slot i takes a, if it holds of a there
  pub set_all : (P : ℕ → A → Type 0) (d : A) (l : List A) (i : ℕ) (a : A) → ((j : ℕ) → P j (get_or l j d)) → P i a
      → (j : ℕ) → P j (get_or (set l i a) j d)
  set_all P d [] i a h q j = h j
  set_all P d (x ∷ xs) zero a h q zero = q
  set_all P d (x ∷ xs) zero a h q (suc j) = h (suc j)
  set_all P d (x ∷ xs) (suc i) a h q zero = h zero
  set_all P d (x ∷ xs) (suc i) a h q (suc j) = set_all (λ k. P (suc k)) d xs i a (λ k. h (suc k)) q j

  -- the same, where the old value of slot i need not be right
  pub set_one : (P : ℕ → A → Type 0) (d : A) (l : List A) (i : ℕ) (a : A) → i < length l → ((j : ℕ) → j ≢ i → P j (get_or l j d)) → P i a
      → (j : ℕ) → P j (get_or (set l i a) j d)
  set_one P d l i a h f q j =
      ⊎_elim (λ (e : j ≡ i). rw (e, get_or-set_same l i a d h) q)
      (λ (e : j ≢ i). rw (get_or-set_other l i j a d e) (f j e))
      (eqb_cases j i)

  -- past its end a row of n reads as its default
  pub past : (P : ℕ → A → Type 0) (d : A) (l : List A) (n : ℕ) → length l ≡ n → ((i : ℕ) → i < n → P i (get_or l i d)) → ((i : ℕ) → P i d)
      → (i : ℕ) → P i (get_or l i d)
  past P d l n e h g i =
      ⊎_elim (λ (q : ltb i n ≡ true). h i (ltb-true i n q))
      (λ (q : ltb i n ≡ false). rw (get_or-eq_default l d (subst (λ (k : ℕ). k ≤ i) (sym e) (ltb-false i n q))) (g i))
      (bool_cases (ltb i n))

  -- a test of each slot of a row, which the default passes, holds at every index
  pub row_of : (p : ℕ → A → Bool) (d : A) (l : List A) (n : ℕ) → length l ≡ n → ((i : ℕ) → p i d ≡ true)
      → all_below n (λ i. p i (get_or l i d)) ≡ true → (i : ℕ) → p i (get_or l i d) ≡ true
  row_of p d l n e g t = past (λ i a. p i a ≡ true) d l n e (all_below-at n (λ i. p i (get_or l i d)) t) g

  pub get_d_all : (n i : ℕ) (a : A) → get_or (replicate n a) i a ≡ a
  get_d_all zero i a = refl
  get_d_all (suc n) zero a = refl
  get_d_all (suc n) (suc i) a = get_d_all n i a

  pub every_snoc : (Q : A → Type 0) (l : List A) (x : A) → Every Q l → Q x → Every Q (l ++ x ∷ [])
  every_snoc Q [] x h q = (q, tt)
  every_snoc Q (y ∷ ys) x h q = (h.0, every_snoc Q ys x h.1 q)

  -- SUMS

  pub sum-set : (w : A → ℕ) (d : A) (l : List A) (i : ℕ) (a : A) → i < length l
      → sum w (set l i a) + w (get_or l i d) ≡ sum w l + w a
  sum-set w d [] i a h = absurd (not-suc-le-zero h)
  sum-set w d (x ∷ xs) zero a h = omega arith
  sum-set w d (x ∷ xs) (suc i) a h = omega (arith, sum-set w d xs i a (le_of_suc-le-suc h))

  -- slot i, which held x, takes y
  pub sum_swap : (w : A → ℕ) (d : A) (l : List A) (i : ℕ) (x y : A) → i < length l → get_or l i d ≡ x → sum w (set l i y) + w x ≡ sum w l + w y
  sum_swap w d l i x y h e = rw (← e) (sum-set w d l i y h)

  pub sum-map : (w : A → ℕ) (f : A → A) → ((x : A) → w (f x) ≡ w x) → (l : List A) → sum w (map f l) ≡ sum w l
  sum-map w f h [] = refl
  sum-map w f h (x ∷ xs) = omega (arith, h x, sum-map w f h xs)

  pub sum_snoc : (w : A → ℕ) (l : List A) (x : A) → sum w (l ++ x ∷ []) ≡ sum w l + w x
  sum_snoc w [] x = omega arith
  sum_snoc w (y ∷ ys) x = omega (arith, sum_snoc w ys x)

  pub sum_zero : (w : A → ℕ) (d : A) (l : List A) → ((i : ℕ) → w (get_or l i d) ≡ 0) → sum w l ≡ 0
  sum_zero w d [] h = refl
  sum_zero w d (x ∷ xs) h = omega (arith, h 0, sum_zero w d xs (λ i. h (suc i)))
