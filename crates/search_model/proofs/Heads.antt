-- Which places are low, hope and near, for code that keeps them at the heads of queues.
use Rattle.std.proofs.Common.{◌≡◌, ℕ, ◌*◌, ◌<◌, ◌≤◌, true, false, ◌⊎◌, List, length, Some, None, Option, refl, ap, ◌∙◌, inl, inr, ⊎_elim, mul-le-mul_right, mul-le-mul_left, arith}
use Rattle.std.proofs.lemmas.Bool.{lt-ltb, le-ltb, eq-eqb, eqb-true, le-leb, lt-leb, leb-true, leb-false, and_from, and_parts}
use Rattle.std.proofs.lemmas.Bool.Decides.{nat_tests}
use Rattle.search_model.specs.declared.records.Record.{Record}
use Rattle.search_model.specs.declared.search.Search.{Search}
use Rattle.search_model.specs.Records.{at, is_open, f, f_hat, Open}
use Rattle.search_model.specs.Choice.{least, by_key, low_place, hope_place, near_place, within, is_near, rank, nearer, if_within, choice}
use Rattle.search_model.proofs.Least.{least_is, least_none, least_missing}
use Rattle.search_model.proofs.Table.{seen_on}
use Rattle.search_model.proofs.Chosen.{by_key_ranks, near_ranks, near_open, head_open, head_least, head_missing}

-- Key x at p comes before key y at q, or ties at a number that is not higher.
abbrev pub Before : ℕ → ℕ → ℕ → ℕ → Type 0
Before x p y q = (x < y) ⊎ ((x ≡ y) × (p ≤ q))

-- The open place whose key comes before that of every open place is the head.
head_is :
    (key : Record → ℕ) (t : List Record) (p : ℕ)
    → Open t p
    → ((q : ℕ) → Open t q → Before (key (at t p)) p (key (at t q)) q)
    → least (λ q. is_open (at t q)) (by_key key t) (length t) ≡ Some p
head_is key t p o h =
    least_is
    (λ q. is_open (at t q))
    (by_key key t)
    (by_key_ranks key t)
    (length t)
    p
    (seen_on t p (omega arith))
    (eq-eqb (at t p).mark 1 o)
    (λ q l e.
    ⊎_elim
    (λ x. inl (lt-ltb (key (at t p)) (key (at t q)) x))
    (λ x. inr (le-ltb (key (at t q)) (key (at t p)) (omega (arith, x.0)), x.1))
    (h q (eqb-true (at t q).mark 1 e)))

head_none : (key : Record → ℕ) (t : List Record) → ((q : ℕ) → Open t q → ⊥) → least (λ q. is_open (at t q)) (by_key key t) (length t) ≡ None
head_none key t h = least_none (λ q. is_open (at t q)) (by_key key t) (by_key_ranks key t) (length t) (λ q l e. h q (eqb-true (at t q).mark 1 e))

-- Low.
pub low_is : (t : List Record) (p : ℕ) → Open t p → ((q : ℕ) → Open t q → Before (f (at t p)) p (f (at t q)) q) → low_place t ≡ Some p
low_is = head_is f

pub low_none : (t : List Record) → ((q : ℕ) → Open t q → ⊥) → low_place t ≡ None
low_none = head_none f

-- Hope.
pub hope_is : (t : List Record) (p : ℕ) → Open t p → ((q : ℕ) → Open t q → Before (f_hat (at t p)) p (f_hat (at t q)) q) → hope_place t ≡ Some p
hope_is = head_is f_hat

pub hope_none : (t : List Record) → ((q : ℕ) → Open t q → ⊥) → hope_place t ≡ None
hope_none = head_none f_hat

-- p is in the near set of the least f̂ h.
pub record Near (s : Search) (t : List Record) (h p : ℕ) : Type 0 where
  pub opened : Open t p
  pub close : s.bound.b * f_hat (at t p) ≤ s.bound.a * h

-- Near places by rank, then by f̂, then by number.
abbrev pub NearBefore : Search → List Record → ℕ → ℕ → Type 0
NearBefore s t p q =
    (rank s (at t p) < rank s (at t q)) ⊎ ((rank s (at t p) ≡ rank s (at t q)) × Before (f_hat (at t p)) p (f_hat (at t q)) q)

near_test : (s : Search) (t : List Record) (h p : ℕ) → is_near s h (at t p) ≡ true → Near s t h p
near_test s t h p e =
    let both : (is_open (at t p) ≡ true) × (within s h (at t p) ≡ true) = and_parts (is_open (at t p)) (within s h (at t p)) e in
    record {
      opened = eqb-true (at t p).mark 1 both.0;
      close = leb-true (s.bound.b * f_hat (at t p)) (s.bound.a * h) both.1;
    }

near_holds : (s : Search) (t : List Record) (h p : ℕ) → Near s t h p → is_near s h (at t p) ≡ true
near_holds s t h p n =
    and_from
    (is_open (at t p))
    (within s h (at t p))
    (eq-eqb (at t p).mark 1 n.opened)
    (le-leb (s.bound.b * f_hat (at t p)) (s.bound.a * h) n.close)

pub near_is :
    (s : Search) (t : List Record) (h p : ℕ)
    → hope_place t ≡ Some h
    → Near s t (f_hat (at t h)) p
    → ((q : ℕ) → Near s t (f_hat (at t h)) q → NearBefore s t p q)
    → near_place s t ≡ Some p
near_is s t h p e n first = rw (e, near_place) found
  where
    ordered : (q : ℕ) → NearBefore s t p q → (nearer s (at t p) (at t q) ≡ true) ⊎ ((nearer s (at t q) (at t p) ≡ false) × (p ≤ q))
    ordered q (inl x) = inl (grind (arith, nat_tests))
    ordered q (inr (e, inl x)) = inl (grind (arith, nat_tests))
    ordered q (inr (e, inr x)) = inr (grind (arith, nat_tests), x.1)

    found : least (λ q. is_near s (f_hat (at t h)) (at t q)) (λ q r. nearer s (at t q) (at t r)) (length t) ≡ Some p
    found =
        least_is
        (λ q. is_near s (f_hat (at t h)) (at t q))
        (λ q r. nearer s (at t q) (at t r))
        (near_ranks s t)
        (length t)
        p
        (seen_on t p (omega arith))
        (near_holds s t (f_hat (at t h)) p n)
        (λ q l x. ordered q (first q (near_test s t (f_hat (at t h)) q x)))

-- Under a bound of at least 1 hope itself is in the near set.
pub near_missing : (s : Search) (t : List Record) → s.bound.b ≤ s.bound.a → near_place s t ≡ None → (q : ℕ) → Open t q → ⊥
near_missing s t ba = by (hope_place t) refl
  where
    by :
        (x : Option ℕ)
        → hope_place t ≡ x
        → ◌≡◌ {A = Option ℕ} (elim x [ None ↦ None | Some h ↦ least (λ q. is_near s (f_hat (at t h)) (at t q)) (λ q r. nearer s (at t q) (at t r)) (length t) ]) None
        → (q : ℕ)
        → Open t q
        → ⊥
    by None e n q o = head_missing f_hat t e q o
    by (Some h) e n q o =
        let opened : Open t h = head_open f_hat t h e in
        least_missing
        (λ q. is_near s (f_hat (at t h)) (at t q))
        (λ q r. nearer s (at t q) (at t r))
        (near_ranks s t)
        (length t)
        n
        h
        (seen_on t h (omega arith))
        (near_holds s t (f_hat (at t h)) h (record { opened = opened; close = mul-le-mul_right (f_hat (at t h)) ba }))

-- f̂ of near is at least f̂ of hope.
pub hope_before_near : (s : Search) (t : List Record) (h p : ℕ) → hope_place t ≡ Some h → near_place s t ≡ Some p → f_hat (at t h) ≤ f_hat (at t p)
hope_before_near s t h p e n = head_least f_hat t h e p (near_open s t p n)

-- The choice: near where it is within the mark, otherwise hope where it is, otherwise low.
module _ (s : Search) (mark : ℕ) (t : List Record) where
  if_within_yes : (p : ℕ) (y : Option ℕ) → within s mark (at t p) ≡ true → if_within s mark t (Some p) y ≡ Some p
  if_within_yes p y w = rw (w, if_within)

  if_within_no : (p : ℕ) (y : Option ℕ) → within s mark (at t p) ≡ false → if_within s mark t (Some p) y ≡ y
  if_within_no p y w = rw (w, if_within)

  abbrev hope_or_low : Option ℕ → Option ℕ
  hope_or_low h = if_within s mark t h (low_place t)

  pub choice_near : (p : ℕ) → near_place s t ≡ Some p → within s mark (at t p) ≡ true → choice s mark t ≡ Some p
  choice_near p n w = ap (λ x. if_within s mark t x (hope_or_low (hope_place t))) n ∙ if_within_yes p (hope_or_low (hope_place t)) w

  past_near : (p : ℕ) → near_place s t ≡ Some p → within s mark (at t p) ≡ false → choice s mark t ≡ hope_or_low (hope_place t)
  past_near p n w = ap (λ x. if_within s mark t x (hope_or_low (hope_place t))) n ∙ if_within_no p (hope_or_low (hope_place t)) w

  pub choice_hope :
      (p h : ℕ)
      → near_place s t ≡ Some p
      → within s mark (at t p) ≡ false
      → hope_place t ≡ Some h
      → within s mark (at t h) ≡ true
      → choice s mark t ≡ Some h
  choice_hope p h n out e w = past_near p n out ∙ ap hope_or_low e ∙ if_within_yes h (low_place t) w

  -- Where hope is not within the mark near is not either, and need not be looked at.
  pub choice_low : (h : ℕ) → hope_place t ≡ Some h → within s mark (at t h) ≡ false → choice s mark t ≡ low_place t
  choice_low h e out = by (near_place s t) refl ∙ ap hope_or_low e ∙ if_within_no h (low_place t) out
    where
      farther : (p : ℕ) → near_place s t ≡ Some p → within s mark (at t p) ≡ false
      farther p n =
          let over : s.bound.a * mark < s.bound.b * f_hat (at t h) = leb-false (s.bound.b * f_hat (at t h)) (s.bound.a * mark) out in
          let more : s.bound.b * f_hat (at t h) ≤ s.bound.b * f_hat (at t p) = mul-le-mul_left s.bound.b (hope_before_near s t h p e n) in
          lt-leb (s.bound.b * f_hat (at t p)) (s.bound.a * mark) (omega arith)

      by : (x : Option ℕ) → near_place s t ≡ x → choice s mark t ≡ hope_or_low (hope_place t)
      by None n = ap (λ x. if_within s mark t x (hope_or_low (hope_place t))) n
      by (Some p) n = past_near p n (farther p n)
