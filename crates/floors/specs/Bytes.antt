-- Laws of the least nonzero and of the greatest byte.
use Rattle.std.specs.Prelude.{◌≡◌, ℕ, zero, suc, ◌<◌, ◌≤◌, max, ◌⊎◌, List, [], ◌∷◌, fold, slice_index, refl}
use Rattle.std.proofs.Common.{inl, inr, ⊎_elim, sym, ◌∙◌, arith}
use Rattle.floors.specs.Grid.{lesser_nonzero, least_nonzero, greatest}

-- The lesser nonzero byte is none of the two where both are 0, and at most each that is not 0.
pub lesser_parts : (a b : ℕ) → (0 < a → (0 < lesser_nonzero a b) × (lesser_nonzero a b ≤ a)) × (0 < b → (0 < lesser_nonzero a b) × (lesser_nonzero a b ≤ b))
lesser_parts a b = (λ h. (grind arith, grind arith), λ h. (grind arith, grind arith))

-- A byte found stays an upper bound, whatever follows.
least_stays : (a : ℕ) (xs : List ℕ) → 0 < a → (0 < fold lesser_nonzero a xs) × (fold lesser_nonzero a xs ≤ a)
least_stays a [] some = (some, omega arith)
least_stays a (x ∷ xs) some =
    let now = (lesser_parts a x).0 some in
    let later = least_stays (lesser_nonzero a x) xs now.0 in
    (later.0, omega (arith, later.1, now.1))

least_from : (a : ℕ) (xs : List ℕ) (i : ℕ) → 0 < slice_index xs i → (0 < fold lesser_nonzero a xs) × (fold lesser_nonzero a xs ≤ slice_index xs i)
least_from a [] i some = absurd (omega arith)
least_from a (x ∷ xs) zero some =
    let now : (0 < lesser_nonzero a x) × (lesser_nonzero a x ≤ x) = (lesser_parts a x).1 some in
    let later = least_stays (lesser_nonzero a x) xs now.0 in
    (later.0, omega (arith, later.1, now.1))
least_from a (x ∷ xs) (suc i) some = least_from (lesser_nonzero a x) xs i some

-- A fold that picks one of two each time comes to its start or to one of the list.
picked : (pick : ℕ → ℕ → ℕ) → ((a b : ℕ) → (pick a b ≡ a) ⊎ (pick a b ≡ b))
    → (a : ℕ) (xs : List ℕ) → (fold pick a xs ≡ a) ⊎ ((i : ℕ) × (slice_index xs i ≡ fold pick a xs))
picked pick one a [] = inl refl
picked pick one a (x ∷ xs) = ⊎_elim
    (λ (start : fold pick (pick a x) xs ≡ pick a x). ⊎_elim
    (λ (old : pick a x ≡ a). inl (start ∙ old))
    (λ (new : pick a x ≡ x). inr (zero, sym (start ∙ new)))
    (one a x))
    (λ (found : (i : ℕ) × (slice_index xs i ≡ fold pick (pick a x) xs)). inr (suc found.0, found.1))
    (picked pick one (pick a x) xs)

-- The least nonzero byte: it is one of the bytes, and no nonzero byte is less; it is 0 only where every byte is 0.
pub record IsLeast (cells : List ℕ) (m : ℕ) : Type 0 where
  pub below : (i : ℕ) → 0 < slice_index cells i → m ≤ slice_index cells i
  pub one_of : 0 < m → (i : ℕ) × (slice_index cells i ≡ m)
  pub none : m ≡ 0 → (i : ℕ) → slice_index cells i ≡ 0

pub least_is : (cells : List ℕ) → IsLeast cells (least_nonzero cells)
least_is cells = record {
  below = λ i some. (least_from 0 cells i some).1;
  one_of = λ some. ⊎_elim (λ (start : least_nonzero cells ≡ 0). absurd (omega arith)) (λ found. found) (picked lesser_nonzero one 0 cells);
  none = λ zero_least i. grind (arith, least_from 0 cells i);
}
  where
    one : (a b : ℕ) → (lesser_nonzero a b ≡ a) ⊎ (lesser_nonzero a b ≡ b)
    one a b = grind arith

-- The greatest byte: it is one of the bytes, or 0, and none is greater.
pub record IsGreatest (cells : List ℕ) (m : ℕ) : Type 0 where
  pub above : (i : ℕ) → slice_index cells i ≤ m
  pub one_of : 0 < m → (i : ℕ) × (slice_index cells i ≡ m)

greatest_stays : (a : ℕ) (xs : List ℕ) → a ≤ fold max a xs
greatest_stays a [] = omega arith
greatest_stays a (x ∷ xs) = omega (arith, greatest_stays (max a x) xs)

greatest_from : (a : ℕ) (xs : List ℕ) (i : ℕ) → slice_index xs i ≤ fold max a xs
greatest_from a [] i = omega arith
greatest_from a (x ∷ xs) zero = omega (arith, greatest_stays (max a x) xs)
greatest_from a (x ∷ xs) (suc i) = greatest_from (max a x) xs i

pub greatest_is : (cells : List ℕ) → IsGreatest cells (greatest cells)
greatest_is cells = record {
  above = λ i. greatest_from 0 cells i;
  one_of = λ some. ⊎_elim (λ (start : greatest cells ≡ 0). absurd (omega arith)) (λ found. found) (picked max one 0 cells);
}
  where
    one : (a b : ℕ) → (max a b ≡ a) ⊎ (max a b ≡ b)
    one a b = grind arith

-- What is chosen from two bytes is one of them, so a fold of such choices is within a bound of all.
fold_within : (pick : ℕ → ℕ → ℕ) (top : ℕ) → ((a b : ℕ) → a ≤ top → b ≤ top → pick a b ≤ top)
    → (a : ℕ) (xs : List ℕ) → a ≤ top → ((i : ℕ) → slice_index xs i ≤ top) → fold pick a xs ≤ top
fold_within pick top kept a [] start each = start
fold_within pick top kept a (x ∷ xs) start each = fold_within pick top kept (pick a x) xs (kept a x start (each zero)) (λ i. each (suc i))

pub least_within : (top : ℕ) (cells : List ℕ) → ((i : ℕ) → slice_index cells i ≤ top) → least_nonzero cells ≤ top
least_within top cells each = fold_within lesser_nonzero top
    (λ a b h k. grind arith)
    0 cells (omega arith) each

pub greatest_within : (top : ℕ) (cells : List ℕ) → ((i : ℕ) → slice_index cells i ≤ top) → greatest cells ≤ top
greatest_within top cells each = fold_within max top (λ a b h k. omega arith) 0 cells (omega arith) each
