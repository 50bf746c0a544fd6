-- What is kept by each leg is kept by all of them, and what is kept by each expansion is kept by an advance.
use Rattle.std.proofs.Common.{◌≡◌, ℕ, zero, suc, ◌+◌, ◌≤◌, Bool, true, false, List, length, set, Some, None, Option, sym, refl, ap, subst, add-zero, arith}
use Rattle.floors.specs.declared.leg.Leg.{Leg}
use Rattle.floors.specs.Guided.{Guided, SoundGuided}
use Rattle.search_model.specs.declared.records.Record.{Record}
use Rattle.search_model.specs.declared.search.Search.{Search}
use Rattle.search_model.specs.Records.{at}
use Rattle.search_model.specs.Expansion.{labelled, takes, offer, spread, expanded, counted}
use Rattle.search_model.specs.Advance.{Answer, Barren, Settled, More, Outcome, expansions, low_mark, Turn, nothing, goal, other, turn, stop, after, going}
use Rattle.search_model.proofs.Labels.{Given, given_label, given_record}
use Rattle.search_model.proofs.Chosen.{Picked, TurnSays, turn_says}

-- P is kept by leg k of n: where it is barred, where its target does not take the label, and where it does.
pub record Kept (g : Guided) (n : ℕ) (P : ℕ → List Record → Type 0) : Type 0 where
  pub barred : (k : ℕ) (t : List Record) → g.floor.leg n k ≡ None → P k t → P (suc k) t
  pub passed : (k : ℕ) (t : List Record) (l : Leg) → g.floor.leg n k ≡ Some l → takes ((at t n).label + l.cost) (at t l.target) ≡ false → P k t → P (suc k) t
  pub given :
      (k : ℕ) (t : List Record) (l : Leg)
      → g.floor.leg n k ≡ Some l
      → takes ((at t n).label + l.cost) (at t l.target) ≡ true
      → P k t
      → P (suc k) (set t l.target (labelled g l.target ((at t n).label + l.cost) n k))

pub spread_rule : (g : Guided) (n : ℕ) (P : ℕ → List Record → Type 0) → Kept g n P → (t : List Record) → P 0 t → (k : ℕ) → P k (spread g n k t)
spread_rule g n P h t p zero = p
spread_rule g n P h t p (suc k) = by_leg (spread g n k t) (spread_rule g n P h t p k) (g.floor.leg n k) refl
  where
    by_leg :
        (u : List Record)
        → P k u
        → (x : Option Leg)
        → g.floor.leg n k ≡ x
        → P (suc k) (elim x [ None ↦ u | Some l ↦ offer g l.target ((at u n).label + l.cost) n k u ])
    by_leg u q None e = h.barred k u e q
    by_leg u q (Some l) e = by_test (takes ((at u n).label + l.cost) (at u l.target)) refl
      where
        by_test :
            (b : Bool)
            → takes ((at u n).label + l.cost) (at u l.target) ≡ b
            → P (suc k) (elim b [ true ↦ set u l.target (labelled g l.target ((at u n).label + l.cost) n k) | false ↦ u ])
        by_test true x = h.given k u l e x q
        by_test false x = h.passed k u l e x q

-- What is kept where a label is given, and says that there is one record for each place, is kept by every leg.
pub kept_by_labels :
    (g : Guided) (n : ℕ) (P : List Record → Type 0)
    → SoundGuided g
    → ((t : List Record) → P t → length t ≡ g.floor.size)
    → ((k : ℕ) (t : List Record) (l : Leg) → Given g t n k l → P t → P (set t l.target (given_record g t n k l)))
    → Kept g n (λ k t. P t)
kept_by_labels g n P sound sized given =
    record {
      barred = λ k t e p. p;
      passed = λ k t l e h p. p;
      given = λ k t l e h p. given k t l (given_label g t n k l sound (sized t p) e h) p;
    }

-- What an answer says of the search and the records that it leaves.
abbrev pub AnswerSays : Guided → Search → List Record → Answer → Type 0
AnswerSays g s t Barren = TurnSays g s t nothing
AnswerSays g s t (Settled n) = TurnSays g s t (goal n)
AnswerSays g s t More = (n : ℕ) × TurnSays g s t (other n)

-- How an advance ends, where P tells of the expansions so far, the search and the records.
pub record Ended (g : Guided) (P : ℕ → Search → List Record → Type 0) (k budget : ℕ) (o : Outcome) : Type 0 where
  pub holds : P (k + expansions o) o.search_after o.records
  pub says : AnswerSays g o.search_after o.records o.answer
  pub marked : o.mark ≡ low_mark o.records
  pub spent : o.answer ≡ More → expansions o ≡ budget
  pub affordable : expansions o ≤ budget

-- P is kept by each expansion.
abbrev pub KeptByExpansion : Guided → (ℕ → Search → List Record → Type 0) → Type 0
KeptByExpansion g P = (k : ℕ) (s : Search) (t : List Record) (n : ℕ) → Picked g s t n false → P k s t → P (suc k) (counted s) (expanded g n t)

module _ (g : Guided) (P : ℕ → Search → List Record → Type 0) where
  ends : (k budget : ℕ) (s : Search) (t : List Record) (a : Answer) → P k s t → AnswerSays g s t a → (a ≡ More → 0 ≡ budget) → Ended g P k budget (stop a s t)
  ends k budget s t a p says spent =
      record {
        holds = subst (λ j. P j s t) (sym (add-zero k)) p;
        says = says;
        marked = refl;
        spent = spent;
        affordable = omega arith;
      }

  goes_on : (k budget n : ℕ) (o : Outcome) → Ended g P (suc k) budget o → Ended g P k (suc budget) (after n o)
  goes_on k budget n o h =
      let i : suc k + expansions o ≡ k + suc (expansions o) = omega arith in
      record {
        holds = subst (λ j. P j o.search_after o.records) i h.holds;
        says = h.says;
        marked = h.marked;
        spent = λ e. ap suc (h.spent e);
        affordable = omega (arith, h.affordable);
      }

  pub going_rule : KeptByExpansion g P → (budget k : ℕ) (s : Search) (t : List Record) → P k s t → Ended g P k budget (going g budget s t)
  going_rule keeps zero k s t p = by (turn g s t) (turn_says g s t)
    where
      by :
          (x : Turn)
          → TurnSays g s t x
          → Ended g P k 0 (elim x [ nothing ↦ stop Barren s t | goal n ↦ stop (Settled n) s t | other n ↦ stop More s t ])
      by nothing h = ends k 0 s t Barren p h (λ _. refl)
      by (goal n) h = ends k 0 s t (Settled n) p h (λ _. refl)
      by (other n) h = ends k 0 s t More p (n, h) (λ _. refl)
  going_rule keeps (suc budget) k s t p = by (turn g s t) (turn_says g s t) (λ n h. going_rule keeps budget (suc k) (counted s) (expanded g n t) (keeps k s t n h p))
    where
      by :
          (x : Turn)
          → TurnSays g s t x
          → ((n : ℕ) → Picked g s t n false → Ended g P (suc k) budget (going g budget (counted s) (expanded g n t)))
          → Ended g P k (suc budget) (elim x [ nothing ↦ stop Barren s t | goal n ↦ stop (Settled n) s t | other n ↦ after n (going g budget (counted s) (expanded g n t)) ])
      by nothing h more = ends k (suc budget) s t Barren p h (λ e. cc)
      by (goal n) h more = ends k (suc budget) s t (Settled n) p h (λ e. cc)
      by (other n) h more = goes_on k budget n (going g budget (counted s) (expanded g n t)) (more n h)
