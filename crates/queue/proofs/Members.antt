-- What sums over entries say of single entries: counts, membership, what every entry keeps.
use Rattle.std.proofs.Common.{◌≡◌, ℕ, suc, ◌+◌, ◌<◌, ◌≤◌, Bool, true, false, cond, ◌&&◌, ◌⊎◌, List, [], ◌∷◌, length, get_or, take, count_by, sym, refl, ap, ◌∙◌, subst, inl, inr, ⊎_elim, arith, length-take, get_or-take}
use Rattle.std.specs.List.{ContainsAt as Has}
use Rattle.std.proofs.lemmas.List.Sums.{sum_by-cons, sum_by_more, sum_by-take-le, get_or-le-sum_by}
use Rattle.std.proofs.lemmas.Bool.{cases_Bool, cases_order, cond-true, cond-false, and_from, and_parts}
use Rattle.queue.specs.Entries.{Added, Removed, Replaced}
use Rattle.queue.specs.Order.{Ordered}
use Rattle.queue.proofs.Holes.{at_most_self}

-- 1 for a test that passes, 0 for one that fails
abbrev pub tally : Bool → ℕ
tally b = cond b 1 0

pub tally_true : (b : Bool) → b ≡ true → tally b ≡ 1
tally_true b t = cond-true b 1 0 t

pub tally_false : (b : Bool) → b ≡ false → tally b ≡ 0
tally_false b f = cond-false b 1 0 f

module _ {E : Type 0} (p : E → Bool) where
  -- no entry passes the test
  abbrev pub NonePass : List E → Type 0
  NonePass es = (d : E) (i : ℕ) → i < length es → p (get_or es i d) ≡ false

  -- at most one entry passes the test
  abbrev pub OnePasses : List E → Type 0
  OnePasses es = (d : E) (i j : ℕ) → i < length es → j < length es → p (get_or es i d) ≡ true → p (get_or es j d) ≡ true → i ≡ j

  pub count_cons : (x : E) (xs : List E) → count_by p (x ∷ xs) ≡ tally (p x) + count_by p xs
  count_cons x xs = sum_by-cons (λ y. tally (p y)) x xs

  pub count_none : (es : List E) → NonePass es → count_by p es ≡ 0
  count_none [] H = refl
  count_none (x ∷ xs) H =
      let fails : tally (p x) ≡ 0 = tally_false (p x) (H x 0 (omega arith)) in
      omega (arith, count_cons x xs, fails, count_none xs (λ d i l. H d (suc i) (omega arith)))

  pub count_some : (es : List E) (d : E) (i : ℕ) → i < length es → p (get_or es i d) ≡ true → 0 < count_by p es
  count_some es d i l t = omega (arith, get_or-le-sum_by (λ y. tally (p y)) es i d l, tally_true (p (get_or es i d)) t)

  pub none_count : (es : List E) → count_by p es ≡ 0 → NonePass es
  none_count es z d i l = ⊎_elim (λ t. absurd (omega (arith, count_some es d i l t))) (λ f. f) (cases_Bool (p (get_or es i d)))

  pub found_count : (es : List E) → 0 < count_by p es → (i : ℕ) × (i < length es) × ((d : E) → p (get_or es i d) ≡ true)
  found_count [] z = absurd (omega arith)
  found_count (x ∷ xs) z = ⊎_elim
      (λ t. (0, omega arith, λ d. t))
      (λ f.
      let more = found_count xs (omega (arith, count_cons x xs, tally_false (p x) f)) in
      (suc more.0, omega (arith, more.1), more.2))
      (cases_Bool (p x))

  pub two_count : (es : List E) (d : E) (i j : ℕ) → i < j → j < length es → p (get_or es i d) ≡ true → p (get_or es j d) ≡ true → 1 < count_by p es
  two_count es d i j l lj ti tj =
      let long : i < length (take j es) = omega (arith, length-take j es) in
      let first : 0 < count_by p (take j es) = count_some (take j es) d i long (ap p (get_or-take j es i d l) ∙ ti) in
      omega (arith, first, sum_by_more (λ y. tally (p y)) es j d lj, tally_true (p (get_or es j d)) tj, sum_by-take-le (λ y. tally (p y)) es (j + 1))

  pub count_one : (es : List E) → OnePasses es → count_by p es ≤ 1
  count_one [] H = omega arith
  count_one (x ∷ xs) H = ⊎_elim
      (λ t.
      let rest : count_by p xs ≡ 0 = count_none xs (λ d i l. ⊎_elim
      (λ t'. let same : ◌≡◌ {A = ℕ} 0 (suc i) = H d 0 (suc i) (omega arith) (omega arith) t t' in absurd (omega arith)) (λ f. f) (cases_Bool (p (get_or xs i d)))) in
      omega (arith, count_cons x xs, tally_true (p x) t, rest))
      (λ f.
      let rest : count_by p xs ≤ 1 = count_one xs (λ d i j li lj ti tj.
      let same : suc i ≡ suc j = H d (suc i) (suc j) (omega arith) (omega arith) ti tj in omega arith) in
      omega (arith, count_cons x xs, tally_false (p x) f, rest))
      (cases_Bool (p x))

  pub one_count : (es : List E) → count_by p es ≤ 1 → OnePasses es
  one_count es few d i j li lj ti tj = ⊎_elim (λ e. e)
      (λ h. absurd (⊎_elim (λ l. omega (arith, two_count es d i j l lj ti tj)) (λ l. omega (arith, two_count es d j i l li tj ti)) h))
      (cases_order i j)

  -- how the count changes
  pub count_added : (e : E) (es es' : List E) → Added e es es' → count_by p es' ≡ count_by p es + tally (p e)
  count_added e es es' A = A (λ y. tally (p y))

  pub count_replaced : (old e : E) (es es' : List E) → Replaced old e es es' → count_by p es' + tally (p old) ≡ count_by p es + tally (p e)
  count_replaced old e es es' C = C (λ y. tally (p y))

  -- what no entry passes stays so
  pub none_added : (e : E) (es es' : List E) → Added e es es' → NonePass es → p e ≡ false → NonePass es'
  none_added e es es' A H f = none_count es' (omega (arith, count_added e es es' A, count_none es H, tally_false (p e) f))

  pub none_removed : (e : E) (es es' : List E) → Removed e es es' → NonePass es → NonePass es'
  none_removed e es es' A H = none_count es' (omega (arith, count_added e es' es A, count_none es H))

  pub none_replaced : (old e : E) (es es' : List E) → Replaced old e es es' → NonePass es → p e ≡ false → NonePass es'
  none_replaced old e es es' C H f = none_count es' (omega (arith, count_replaced old e es es' C, count_none es H, tally_false (p e) f))

  -- what at most one entry passes stays so
  pub one_added : (e : E) (es es' : List E) → Added e es es' → OnePasses es → (p e ≡ true → NonePass es) → OnePasses es'
  one_added e es es' A H new = one_count es' (⊎_elim
      (λ t. omega (arith, count_added e es es' A, count_none es (new t), tally_true (p e) t))
      (λ f. omega (arith, count_added e es es' A, count_one es H, tally_false (p e) f))
      (cases_Bool (p e)))

  pub one_removed : (e : E) (es es' : List E) → Removed e es es' → OnePasses es → OnePasses es'
  one_removed e es es' A H = one_count es' (omega (arith, count_added e es' es A, count_one es H))

  pub one_replaced : (old e : E) (es es' : List E) → Replaced old e es es' → p e ≡ p old → OnePasses es → OnePasses es'
  one_replaced old e es es' C same H =
      one_count es' (omega (arith, count_replaced old e es es' C, count_one es H, ap tally same))

module _ {E : Type 0} (le : E → E → Bool) (ord : Ordered le) where
  -- antisymmetry makes equality a test
  abbrev pub equals : E → E → Bool
  equals x y = le x y && le y x

  equals_true : (x y : E) → equals x y ≡ true → y ≡ x
  equals_true x y t = let b = and_parts (le x y) (le y x) t in ord.antisym y x b.1 b.0

  equals_self : (x y : E) → y ≡ x → equals x y ≡ true
  equals_self x y e =
      let s : le x x ≡ true = at_most_self le ord x in
      and_from (le x y) (le y x) (rw e s) (rw e s)

  -- x is among the entries as often as the count says
  pub has_count : (es : List E) (x : E) → 0 < count_by (equals x) es → Has es x
  has_count es x z = let found = found_count (equals x) es z in (found.0, found.1, λ d. equals_true x (get_or es found.0 d) (found.2 d))

  pub count_has : (es : List E) (x : E) → Has es x → 0 < count_by (equals x) es
  count_has es x h = count_some (equals x) es x h.0 h.1 (equals_self x (get_or es h.0 x) (h.2 x))

  pub has_added : (e : E) (es es' : List E) → Added e es es' → Has es' e
  has_added e es es' A = has_count es' e (omega (arith, count_added (equals e) e es es' A, tally_true (equals e e) (equals_self e e refl)))

  pub has_before_added : (e : E) (es es' : List E) → Added e es es' → (x : E) → Has es x → Has es' x
  has_before_added e es es' A x h = has_count es' x (omega (arith, count_added (equals x) e es es' A, count_has es x h))

  pub has_after_added : (e : E) (es es' : List E) → Added e es es' → (x : E) → Has es' x → Has es x ⊎ (x ≡ e)
  has_after_added e es es' A x h = ⊎_elim
      (λ t. inr (sym (equals_true x e t)))
      (λ f. inl (has_count es x (omega (arith, count_added (equals x) e es es' A, count_has es' x h, tally_false (equals x e) f))))
      (cases_Bool (equals x e))

  pub has_after_replaced : (old e : E) (es es' : List E) → Replaced old e es es' → (x : E) → Has es' x → Has es x ⊎ (x ≡ e)
  has_after_replaced old e es es' C x h = ⊎_elim
      (λ t. inr (sym (equals_true x e t)))
      (λ f. inl (has_count es x (omega (arith, count_replaced (equals x) old e es es' C, count_has es' x h, tally_false (equals x e) f))))
      (cases_Bool (equals x e))

  pub has_before_replaced : (old e : E) (es es' : List E) → Replaced old e es es' → (x : E) → Has es x → Has es' x ⊎ (x ≡ old)
  has_before_replaced old e es es' C x h = has_after_replaced e old es' es (λ f. sym (C f)) x h

  pub has_replaced : (old e : E) (es es' : List E) → Replaced old e es es' → Has es old → Has es' e
  has_replaced old e es es' C h = has_count es' e (⊎_elim
      (λ t. omega (
        arith,
        count_replaced (equals e) old e es es' C,
        count_has es e (subst (Has es) (equals_true e old t) h),
        tally_true (equals e old) t,
        tally_true (equals e e) (equals_self e e refl),
      ))
      (λ f. omega (arith, count_replaced (equals e) old e es es' C, tally_false (equals e old) f, tally_true (equals e e) (equals_self e e refl)))
      (cases_Bool (equals e old)))
