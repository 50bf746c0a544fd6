-- What a turn finds.
use Rattle.std.proofs.Common.{◌≡◌, ℕ, ◌*◌, ◌≤◌, Bool, true, false, ◌⊎◌, List, length, Some, None, Option, refl, ap, ◌∙◌, subst, inl, inr, ⊎_elim, mul-le-mul_right, mul-le-mul_left, arith}
use Rattle.std.specs.Cmp.{IsStrictWeakOrder}
use Rattle.std.proofs.lemmas.List.MinMax.{IsStrictWeakOrder-by_number}
use Rattle.std.proofs.lemmas.Bool.{and_parts, leb-true, ltb-false, eqb-true, eq-eqb}
use Rattle.std.proofs.lemmas.Bool.Decides.{nat_tests}
use Rattle.floors.specs.Guided.{Guided}
use Rattle.search_model.specs.declared.records.Record.{Record}
use Rattle.search_model.specs.declared.search.Search.{Search}
use Rattle.search_model.specs.Records.{at, is_open, f, f_hat, Open}
use Rattle.search_model.specs.Choice.{least, by_key, low_place, hope_place, near_place, within, is_near, nearer, if_within, choice}
use Rattle.search_model.specs.Advance.{low_mark, Turn, nothing, goal, other, turn, turn_at}
use Rattle.search_model.proofs.Least.{least_found, least_missing}
use Rattle.search_model.proofs.Table.{seen_on}

-- The order by a key, and that of the near places, are orders.
pub by_key_ranks : (key : Record → ℕ) (t : List Record) → IsStrictWeakOrder (by_key key t)
by_key_ranks key t = IsStrictWeakOrder-by_number (λ p. key (at t p))

nearer_ranks : (s : Search) → IsStrictWeakOrder (nearer s)
nearer_ranks s = record { one_way = λ x y h. grind (arith, nat_tests); chain = λ x y z h k. grind (arith, nat_tests) }

pub near_ranks : (s : Search) (t : List Record) → IsStrictWeakOrder (λ p q. nearer s (at t p) (at t q))
near_ranks s t =
    record {
      one_way = λ x y h. (nearer_ranks s).one_way (at t x) (at t y) h;
      chain = λ x y z h k. (nearer_ranks s).chain (at t x) (at t y) (at t z) h k;
    }

-- Low, or hope: open, and its key is least.
pub head_open : (key : Record → ℕ) (t : List Record) (p : ℕ) → least (λ q. is_open (at t q)) (by_key key t) (length t) ≡ Some p → Open t p
head_open key t p e = eqb-true (at t p).mark 1 (least_found (λ q. is_open (at t q)) (by_key key t) (by_key_ranks key t) (length t) p e).passes

pub head_least :
    (key : Record → ℕ) (t : List Record) (p : ℕ)
    → least (λ q. is_open (at t q)) (by_key key t) (length t) ≡ Some p
    → (q : ℕ)
    → Open t q
    → key (at t p) ≤ key (at t q)
head_least key t p e q h =
    ltb-false
    (key (at t q))
    (key (at t p))
    ((least_found (λ q. is_open (at t q)) (by_key key t) (by_key_ranks key t) (length t) p e).first q (seen_on t q (omega arith)) (eq-eqb (at t q).mark 1 h))

pub head_missing :
    (key : Record → ℕ) (t : List Record) → least (λ q. is_open (at t q)) (by_key key t) (length t) ≡ None → (q : ℕ) → Open t q → ⊥
head_missing key t e q h =
    least_missing (λ q. is_open (at t q)) (by_key key t) (by_key_ranks key t) (length t) e q (seen_on t q (omega arith)) (eq-eqb (at t q).mark 1 h)

-- Near is open.
pub near_open : (s : Search) (t : List Record) (p : ℕ) → near_place s t ≡ Some p → Open t p
near_open s t p = by (hope_place t)
  where
    by :
        (x : Option ℕ)
        → ◌≡◌ {A = Option ℕ} (elim x [ None ↦ None | Some h ↦ least (λ q. is_near s (f_hat (at t h)) (at t q)) (λ q r. nearer s (at t q) (at t r)) (length t) ]) (Some p)
        → Open t p
    by None e = cc
    by (Some h) e =
        eqb-true
        (at t p).mark
        1
        (and_parts
        (is_open (at t p))
        (within s (f_hat (at t h)) (at t p))
        (least_found (λ q. is_near s (f_hat (at t h)) (at t q)) (λ q r. nearer s (at t q) (at t r)) (near_ranks s t) (length t) p e).passes
        ).0

-- What `if_within` takes.
if_within_some :
    (s : Search) (m : ℕ) (t : List Record) (x y : Option ℕ) (n : ℕ)
    → if_within s m t x y ≡ Some n
    → ((x ≡ Some n) × (s.bound.b * f_hat (at t n) ≤ s.bound.a * m)) ⊎ (y ≡ Some n)
if_within_some s m t None y n e = inr e
if_within_some s m t (Some p) y n e = by (within s m (at t p)) refl e
  where
    by :
        (b : Bool)
        → within s m (at t p) ≡ b
        → ◌≡◌ {A = Option ℕ} (elim b [ true ↦ Some p | false ↦ y ]) (Some n)
        → ((◌≡◌ {A = Option ℕ} (Some p) (Some n)) × (s.bound.b * f_hat (at t n) ≤ s.bound.a * m)) ⊎ (y ≡ Some n)
    by true w h =
        let same : p ≡ n = cc in
        inl (h, subst (λ q. s.bound.b * f_hat (at t q) ≤ s.bound.a * m) same (leb-true (s.bound.b * f_hat (at t p)) (s.bound.a * m) w))
    by false w h = inr h

if_within_none : (s : Search) (m : ℕ) (t : List Record) (x y : Option ℕ) → if_within s m t x y ≡ None → y ≡ None
if_within_none s m t None y e = e
if_within_none s m t (Some p) y e = by (within s m (at t p)) e
  where
    by : (b : Bool) → ◌≡◌ {A = Option ℕ} (elim b [ true ↦ Some p | false ↦ y ]) None → y ≡ None
    by true h = cc
    by false h = h

-- The place chosen is open, and near or hope within the mark, or low itself.
pub choice_some :
    (s : Search) (m : ℕ) (t : List Record) (n : ℕ)
    → choice s m t ≡ Some n
    → Open t n × ((s.bound.b * f_hat (at t n) ≤ s.bound.a * m) ⊎ (low_place t ≡ Some n))
choice_some s m t n e =
    ⊎_elim
    (λ x. (near_open s t n x.0, inl x.1))
    (λ y.
    ⊎_elim
    (λ x. (head_open f_hat t n x.0, inl x.1))
    (λ z. (head_open f t n z, inr z))
    (if_within_some s m t (hope_place t) (low_place t) n y))
    (if_within_some s m t (near_place s t) (if_within s m t (hope_place t) (low_place t)) n e)

choice_none : (s : Search) (m : ℕ) (t : List Record) → choice s m t ≡ None → low_place t ≡ None
choice_none s m t e =
    if_within_none s m t (hope_place t) (low_place t) (if_within_none s m t (near_place s t) (if_within s m t (hope_place t) (low_place t)) e)

-- The low mark is the least f of the open places.
pub record LowMark (t : List Record) (m : ℕ) : Type 0 where
  pub place : ℕ
  pub is_low : low_place t ≡ Some place
  pub is_f : f (at t place) ≡ m
  pub least_f : (p : ℕ) → Open t p → m ≤ f (at t p)

pub low_mark_some : (t : List Record) (m : ℕ) → low_mark t ≡ Some m → LowMark t m
low_mark_some t m = by (low_place t) refl
  where
    by : (x : Option ℕ) → low_place t ≡ x → ◌≡◌ {A = Option ℕ} (elim x [ None ↦ None | Some p ↦ Some (f (at t p)) ]) (Some m) → LowMark t m
    by None e h = let z : ◌≡◌ {A = ℕ} 0 1 = cc in absurd (omega arith)
    by (Some p) e h =
        let same : f (at t p) ≡ m = cc in
        record { place = p; is_low = e; is_f = same; least_f = λ q o. subst (λ x. x ≤ f (at t q)) same (head_least f t p e q o) }

pub low_mark_none : (t : List Record) → low_mark t ≡ None → (p : ℕ) → Open t p → ⊥
low_mark_none t = by (low_place t) refl
  where
    by : (x : Option ℕ) → low_place t ≡ x → ◌≡◌ {A = Option ℕ} (elim x [ None ↦ None | Some p ↦ Some (f (at t p)) ]) None → (p : ℕ) → Open t p → ⊥
    by None e h = head_missing f t e
    by (Some p) e h = let z : ◌≡◌ {A = ℕ} 0 1 = cc in absurd (omega arith)

-- The place of a turn: open, and b × f̂ within a × the low mark or f the low mark itself.
pub record Picked (g : Guided) (s : Search) (t : List Record) (n : ℕ) (b : Bool) : Type 0 where
  pub mark : ℕ
  pub marked : low_mark t ≡ Some mark
  pub opened : Open t n
  pub cheap : (s.bound.b * f_hat (at t n) ≤ s.bound.a * mark) ⊎ (f (at t n) ≡ mark)
  pub at_goal : g.floor.goal n ≡ b

abbrev pub TurnSays : Guided → Search → List Record → Turn → Type 0
TurnSays g s t nothing = (p : ℕ) → Open t p → ⊥
TurnSays g s t (goal n) = Picked g s t n true
TurnSays g s t (other n) = Picked g s t n false

pub turn_says : (g : Guided) (s : Search) (t : List Record) → TurnSays g s t (turn g s t)
turn_says g s t = by_mark (low_mark t) refl
  where
    by_goal :
        (m n : ℕ)
        → low_mark t ≡ Some m
        → choice s m t ≡ Some n
        → (b : Bool)
        → g.floor.goal n ≡ b
        → TurnSays g s t (elim b [ true ↦ goal n | false ↦ other n ])
    by_goal m n e h =
        elim [
          | true ↦ λ x. record { mark = m; marked = e; opened = c.0; cheap = cheap; at_goal = x }
          | false ↦ λ x. record { mark = m; marked = e; opened = c.0; cheap = cheap; at_goal = x }
        ]
      where
        c : Open t n × ((s.bound.b * f_hat (at t n) ≤ s.bound.a * m) ⊎ (low_place t ≡ Some n))
        c = choice_some s m t n h

        l : LowMark t m
        l = low_mark_some t m e

        cheap : (s.bound.b * f_hat (at t n) ≤ s.bound.a * m) ⊎ (f (at t n) ≡ m)
        cheap = ⊎_elim (λ x. inl x) (λ x. inr (let same : n ≡ l.place = cc (x, l.is_low) in ap (λ q. f (at t q)) same ∙ l.is_f)) c.1

    by_choice : (m : ℕ) → low_mark t ≡ Some m → (x : Option ℕ) → choice s m t ≡ x → TurnSays g s t (turn_at g x)
    by_choice m e None h = λ p o. head_missing f t (choice_none s m t h) p o
    by_choice m e (Some n) h = by_goal m n e h (g.floor.goal n) refl

    by_mark : (x : Option ℕ) → low_mark t ≡ x → TurnSays g s t (elim x [ None ↦ nothing | Some m ↦ turn_at g (choice s m t) ])
    by_mark None e = low_mark_none t e
    by_mark (Some m) e = by_choice m e (choice s m t) refl

-- What the guarantee uses of a choice: the place is open and b × f of it at most a × the mark.
pub record Chosen (s : Search) (t : List Record) (mark n : ℕ) : Type 0 where
  pub opened : Open t n
  pub bounded : s.bound.b * f (at t n) ≤ s.bound.a * mark

pub picked_chosen :
    (g : Guided) (s : Search) (t : List Record) (n : ℕ) (b : Bool) (h : Picked g s t n b)
    → s.bound.b ≤ s.bound.a
    → (at t n).low ≤ (at t n).hope
    → Chosen s t h.mark n
picked_chosen g s t n b h ba lh = record { opened = h.opened; bounded = ⊎_elim by_hope by_low h.cheap }
  where
    by_hope : s.bound.b * f_hat (at t n) ≤ s.bound.a * h.mark → s.bound.b * f (at t n) ≤ s.bound.a * h.mark
    by_hope c =
        let q : s.bound.b * f (at t n) ≤ s.bound.b * f_hat (at t n) = mul-le-mul_left s.bound.b (omega arith) in
        omega arith

    by_low : f (at t n) ≡ h.mark → s.bound.b * f (at t n) ≤ s.bound.a * h.mark
    by_low e = rw e (mul-le-mul_right h.mark ba)
