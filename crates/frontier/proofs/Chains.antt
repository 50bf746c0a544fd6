-- What chains over an `Option` answer, as equations, and what passes a test.
use Rattle.std.proofs.Common.{◌≡◌, Bool, true, false, Some, None, Option, cond, refl, sym, ap, ◌∙◌}
use Rattle.std.proofs.lemmas.Option.{cond_some}
use Rattle.std.specs.Bool.{then_some}
use Rattle.std.specs.Option.{MatchOption, IsSomeAnd, option_map, option_map_or}
use Rattle.std.proofs.lemmas.Map.Entries.{option_filter}

module _ {E : Type 0} where
  -- `filter`, by a test that the closure computes
  pub filtered : {test : E → Bool} (o r : Option E) {Q : E → Bool → Type 0}
      → MatchOption o (r ≡ None) (λ x. (b : Bool) × Q x b × (r ≡ then_some b x)) → ((x : E) (b : Bool) → Q x b → b ≡ test x)
      → r ≡ option_filter test o
  filtered None r f q = f
  filtered {test} (Some x) r (b, h, e) q = e ∙ ap (λ v. then_some v x) (q x b h) ∙ kept (test x)
    where
      kept : (b : Bool) → then_some b x ≡ option_filter (λ _. b) (Some x)
      kept true = refl
      kept false = refl

  -- `map`, by a function that the closure computes
  pub mapped : {V : Type 0} {f : E → V} (o : Option E) (r : Option V) {Q : E → V → Type 0}
      → MatchOption o (r ≡ None) (λ x. IsSomeAnd r (λ v. Q x v)) → ((x : E) (v : V) → Q x v → v ≡ f x)
      → r ≡ option_map f o
  mapped None r m q = m
  mapped (Some x) None m q = absurd m
  mapped (Some x) (Some v) m q = ap Some (q x v m)

  -- `map_or`, by the same
  pub mapped_or : {V : Type 0} {f : E → V} (o : Option E) (r d : V) {Q : E → Type 0}
      → MatchOption o (r ≡ d) Q → ((x : E) → Q x → r ≡ f x)
      → r ≡ option_map_or f o d
  mapped_or None r d m q = m
  mapped_or (Some x) r d m q = q x m

  -- what passed, and what did not
  pub filter_some : (test : E → Bool) (o : Option E) (e : E) → option_filter test o ≡ Some e → (o ≡ Some e) × (test e ≡ true)
  filter_some test None e is = cc
  filter_some test (Some x) e is = let w = cond_some (test x) x e is in (ap Some w.1, ap test (sym w.1) ∙ w.0)

  pub filter_none : (test : E → Bool) (e : E) → option_filter test (Some e) ≡ None → test e ≡ false
  filter_none test e stop = by (test e) stop
    where
      by : (b : Bool) → cond b (Some e) None ≡ None → b ≡ false
      by true is = cc
      by false is = refl
