-- Text put piece by piece.
use mathlib.Core.Path.{◌≡◌, refl, sym, ap, ◌∙◌}
use mathlib.Core.Bool.{Bool, true, false, not, cond}
use mathlib.Core.List.{List, [], ◌∷◌, ◌++◌, append_assoc}
use Prim.Native.Nat.{ℕ, suc, ◌+◌, ◌-◌, ◌≤◌, ◌<◌}
use native.Mathlib.Nat.{add-zero}
use native.Mathlib.Omega.{arith}
use lib.ListN.{length, set, take, drop, length-append}
use lib.Seq.{sets, sets-eq, length-sets}
use borrow.Rule.Slice.PartMut.{put_mid}
use Rattle.std.proofs.lemmas.List.{drop-drop}
use borrow.Author.Tests.{not-true, not-false, leb-true, le-leb}
use Rattle.printing.specs.Put.{fits, PutIfRoom, Room, Put, PutIn}

-- two texts stored one after the other
sets_append : (l : List ℕ) (i : ℕ) (xs ys : List ℕ) → sets l i (xs ++ ys) ≡ sets (sets l i xs) (i + length xs) ys
sets_append l i [] ys = rw (add-zero i)
sets_append l i (x ∷ xs) ys = let e : suc i + length xs ≡ i + suc (length xs) = omega arith in sets_append (set l i x) (suc i) xs ys ∙ rw e

module _ {a : List ℕ} {i : ℕ} where
  pub put_none : Put a a i i []
  put_none = record { ends = omega arith; laid = refl }

  pub put_one : (byte : ℕ) → Put a (set a i byte) i (i + 1) (byte ∷ [])
  put_one byte = record { ends = omega arith; laid = refl }

  pub put-length : {b : List ℕ} {j : ℕ} {xs : List ℕ} → Put a b i j xs → length b ≡ length a
  put-length {b} {j} {xs} p = ap length p.laid ∙ length-sets a i xs

  -- one text after another
  pub put_then : {b c : List ℕ} {j k : ℕ} {xs ys : List ℕ} → Put a b i j xs → Put b c j k ys → Put a c i k (xs ++ ys)
  put_then {b} {c} {j} {k} {xs} {ys} p q = record {
    ends = omega (arith, p.ends, q.ends, length-append xs ys);
    laid = q.laid ∙ rw (p.ends, p.laid) (sym (sets_append a i xs ys));
  }

  -- room for two is room for the first, and for the second after it
  pub room-first : (xs ys : List ℕ) → Room a i (xs ++ ys) → Room a i xs
  room-first xs ys r = record { fits = omega (arith, r.fits, length-append xs ys) }

  pub room-then : (xs ys : List ℕ) → Room a i (xs ++ ys) → {b : List ℕ} {j : ℕ} → Put a b i j xs → Room b j ys
  room-then xs ys r p = record { fits = omega (arith, r.fits, p.ends, put-length p, length-append xs ys) }

  -- room for a text that ends in one byte
  pub room-last : (xs : List ℕ) (byte : ℕ) → Room a i (xs ++ byte ∷ []) → {b : List ℕ} {j : ℕ} → Put a b i j xs → j < length b
  room-last xs byte r p = omega (arith, (room-then xs (byte ∷ []) r p).fits)

  pub room_after : (xs : List ℕ) (byte : ℕ) → Room a i (xs ++ byte ∷ []) → {b : List ℕ} {j : ℕ} → Put a b i j xs → j < length a
  room_after xs byte r p = omega (arith, room-last xs byte r p, put-length p)

-- a text copied over as many bytes from a place on
pub copied : {a : List ℕ} {i : ℕ} (text : List ℕ) → i + length text ≤ length a → {now : List ℕ} → now ≡ text
    → Put a (put_mid i (i + length text - i) a now) i (i + length text) text
copied {a} {i} text h e =
    let k : i + length text - i ≡ length text = omega arith in
    record { ends = refl; laid = rw (k, e) (sym (sets-eq text a i h ∙ append_assoc (take i a) text (drop (i + length text) a) ∙ ap (λ l. take i a ++ (text ++ l)) (sym (drop-drop (length text) i a)))) }

-- LIMITS: texts of at most so many bytes, one after another
module _ {a : List ℕ} {i : ℕ} where
  pub in_then : {l m : ℕ} {b c : List ℕ} {j k : ℕ} {xs ys : List ℕ} → PutIn l a b i j xs → PutIn m b c j k ys → PutIn (l + m) a c i k (xs ++ ys)
  in_then {l} {m} {b} {c} {j} {k} {xs} {ys} p q = record {
    put = put_then p.put q.put;
    short = omega (arith, p.short, q.short, length-append xs ys);
  }

  -- what is left of a limit
  pub left-room : (total m : ℕ) → i + total ≤ length a → {l : ℕ} {b : List ℕ} {j : ℕ} {xs : List ℕ} → PutIn l a b i j xs → l + m ≤ total
      → j + m ≤ length b
  left-room total m h p e = omega (arith, p.short, p.put.ends, put-length p.put)

  pub room_in_lem : (m : ℕ) (xs : List ℕ) → i + m ≤ length a → length xs ≤ m → Room a i xs
  room_in_lem m xs h e = record { fits = omega arith }

  pub within : (l : ℕ) {b : List ℕ} {j : ℕ} {xs : List ℕ} → Put a b i j xs → length xs ≤ l → PutIn l a b i j xs
  within l p e = record { put = p; short = e }

  pub in_more : (m : ℕ) {l : ℕ} {b : List ℕ} {j : ℕ} {xs : List ℕ} → PutIn l a b i j xs → l ≤ m → PutIn m a b i j xs
  in_more m p e = record { put = p.put; short = omega (arith, p.short) }

-- IF THERE IS ROOM
module _ {limit : ℕ} {before : List ℕ} {at : ℕ} where
  pub not_put : {text : List ℕ} → fits limit (length before) at ≡ false → length text ≤ limit → PutIfRoom limit before before at at text
  not_put e s = record { ends = rw e; laid = rw e; short = s }

  -- no text: room or not
  pub nothing_put : PutIfRoom limit before before at at []
  nothing_put = record { ends = go (fits limit (length before) at) at (at + 0) (omega arith); laid = go (fits limit (length before) at) before before refl; short = omega arith }
    where
      go : {A : Type 0} (b : Bool) (x y : A) → x ≡ y → x ≡ cond b y x
      go true x y e = e
      go false x y e = refl

  module _ {after : List ℕ} {end : ℕ} {text : List ℕ} where
    pub is-put : fits limit (length before) at ≡ true → PutIn limit before after at end text → PutIfRoom limit before after at end text
    is-put e p = record { ends = rw e p.put.ends; laid = rw e p.put.laid; short = p.short }

    pub put_in : at + limit ≤ length before → PutIfRoom limit before after at end text → PutIn limit before after at end text
    put_in h p =
        let e = le-leb (at + limit) (length before) h in
        record { put = record { ends = rw e at p.ends; laid = rw e at p.laid }; short = p.short }

-- the same room, asked for in another way
pub asked_as : (asked limit size at : ℕ) → asked ≡ limit → fits asked size at ≡ fits limit size at
asked_as asked limit size at e = rw e

-- what the code's test of room says
module _ (limit size at : ℕ) {found : Bool} (is : found ≡ fits limit size at) where
  pub no_room : not found ≡ true → fits limit size at ≡ false
  no_room e = sym is ∙ not-true found e

  pub has_room : not found ≡ false → fits limit size at ≡ true
  has_room e = sym is ∙ not-false found e

pub room-is : (limit size at : ℕ) → fits limit size at ≡ true → at + limit ≤ size
room-is limit size at e = leb-true (at + limit) size e

-- A LINE, part by part, in room for the whole
module _ {a : List ℕ} {i : ℕ} (total : ℕ) (room : i + total ≤ length a) where
  pub first-put : {l : ℕ} {b : List ℕ} {j : ℕ} {xs : List ℕ} → PutIfRoom l a b i j xs → l ≤ total → PutIn l a b i j xs
  first-put p e = put_in (omega arith) p

  pub then-put : {l m : ℕ} {b c : List ℕ} {j k : ℕ} {xs ys : List ℕ} → PutIn l a b i j xs → PutIfRoom m b c j k ys → l + m ≤ total
      → PutIn (l + m) a c i k (xs ++ ys)
  then-put {l} {m} p q e = in_then p (put_in (left-room total m room p e) q)
