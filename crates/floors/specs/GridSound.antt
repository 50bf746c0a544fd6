-- What an accepted grid is, and that its floor is then sound.
use Rattle.std.specs.Prelude.{◌≡◌, ℕ, ◌+◌, ◌*◌, ◌/◌, ◌<◌, ◌≤◌, Bool, true, false, cond, List, length, Some, None, Option, ◌==◌, nat_lt, slice_index, slice_index_or, refl}
use Rattle.std.proofs.Common.{sym, ap, ap₂, subst, ◌∙◌, mul_comm, mul-add, mul-one, mul-zero, mul-le-mul_left, arith}
use Rattle.std.proofs.lemmas.Nat.{div_below, mod_below, mul-add-lt, div-mul-add, mod-mul-add, mul-le}
use Rattle.std.proofs.lemmas.Bool.{cond-true, cond-false, ltb-true, le-ltb, lt-ltb, eqb-true, eqb-false, ne_eqb}
use Rattle.std.proofs.lemmas.Option.{cond_some}
use Rattle.floors.specs.declared.leg.Leg.{Leg}
use Rattle.floors.specs.declared.grid_shape.Direction.{Direction}
use Rattle.floors.specs.declared.grid_shape.Direction.TheVariants.{North, East, South, West}
use Rattle.floors.specs.declared.grid_shape.GridShape.{GridShape}
use Rattle.floors.specs.declared.grid_shape.Position.{Position}
use Rattle.floors.specs.Bytes.{least_is, least_within, greatest_within}
use Rattle.floors.specs.Consistent.{Consistent, consistent_admissible}
use Rattle.floors.specs.Grid.{area, place_at, position, direction, neighbour, leg_into, leg_count, leg_of, least_nonzero, greatest, distance, to_goal, low_of, grid_floor, grid_guesses}
use Rattle.floors.specs.Guided.{Limited}
use Rattle.floors.specs.Sound.{Limits, Outside, Sound, limit}

-- Width and height are 1 to 64.
pub record Sides (s : GridShape) : Type 0 where
  pub some_width : 1 ≤ s.width
  pub width : s.width ≤ 64
  pub some_height : 1 ≤ s.height
  pub height : s.height ≤ 64

-- A row and a column of the grid.
pub record OnGrid (s : GridShape) (at : Position) : Type 0 where
  pub row : at.row < s.height
  pub column : at.column < s.width

-- The sides are in range, each cell has its byte, and the goal is a place.
pub record Formed (cells : List ℕ) (s : GridShape) : Type 0 where
  pub sides : Sides s
  pub each_cell : length cells ≡ area s
  pub goal : s.goal < area s
  pub bytes : (i : ℕ) → slice_index cells i ≤ 255

-- A place and its row and column determine each other.
pub position_on : (s : GridShape) (p : ℕ) → Sides s → p < area s → OnGrid s (position s p)
position_on s p sides on =
    record { row = div_below p s.width s.height sides.some_width (omega (arith, mul_comm s.width s.height)); column = mod_below p s.width sides.some_width }

pub place_on : (s : GridShape) (at : Position) → OnGrid s at → place_at s at < area s
place_on s at on = mul-add-lt at.row s.width at.column s.height on.row on.column

position_back : (s : GridShape) (at : Position) → OnGrid s at → position s (place_at s at) ≡ at
position_back s at on =
    ap₂ (λ (x y : ℕ). record { row = x; column = y }) (div-mul-add at.row s.width at.column on.column) (mod-mul-add at.row s.width at.column on.column)

-- Two places of a grid are at most 126 apart.
pub to_goal_small : (s : GridShape) (p : ℕ) → Sides s → s.goal < area s → p < area s → to_goal s p ≤ 126
to_goal_small s p sides goal on =
    let a = position_on s p sides on in
    let b = position_on s s.goal sides goal in
    omega (arith, a.row, a.column, b.row, b.column, sides.width, sides.height)

-- A step stays on the grid and brings no goal nearer by more than 1.
record Near (s : GridShape) (goal at next : Position) : Type 0 where
  inside : OnGrid s next
  gentle : distance at goal ≤ 1 + distance next goal

one_step : (s : GridShape) (goal at next : Position) → OnGrid s next → distance at next ≤ 1 → Near s goal at next
one_step s goal at next on short = record { inside = on; gentle = omega arith }

neighbour_near : (s : GridShape) (goal at next : Position) (d : Direction) → OnGrid s at → neighbour s at d ≡ Some next → Near s goal at next
neighbour_near s goal at next North on e =
    let (test, same) = cond_some (nat_lt 0 at.row) _ next e in
    subst (Near s goal at) same (one_step s goal at _ (record { row = omega (arith, on.row); column = on.column }) (omega arith))
neighbour_near s goal at next East on e =
    let (test, same) = cond_some (nat_lt (at.column + 1) s.width) _ next e in
    subst (Near s goal at) same (one_step s goal at _ (record { row = on.row; column = ltb-true _ _ test }) (omega arith))
neighbour_near s goal at next South on e =
    let (test, same) = cond_some (nat_lt (at.row + 1) s.height) _ next e in
    subst (Near s goal at) same (one_step s goal at _ (record { row = ltb-true _ _ test; column = on.column }) (omega arith))
neighbour_near s goal at next West on e =
    let (test, same) = cond_some (nat_lt 0 at.column) _ next e in
    subst (Near s goal at) same (one_step s goal at _ (record { row = on.row; column = omega (arith, on.column) }) (omega arith))

-- What a usable leg from place p enters: a cell one step on, whose byte is not 0 and is the cost.
record Entered (cells : List ℕ) (s : GridShape) (p : ℕ) (l : Leg) : Type 0 where
  here : p < area s
  at : Position
  near : Near s (position s s.goal) (position s p) at
  target : place_at s at ≡ l.target
  cost : slice_index_or cells l.target 0 ≡ l.cost
  some : 0 < l.cost

entered : (cells : List ℕ) (s : GridShape) (p k : ℕ) (l : Leg) → Sides s → leg_of cells s p k ≡ Some l → Entered cells s p l
entered cells s p k l sides = listed (nat_lt k (leg_count s p)) refl
  where
    into : (at : Position) → p < area s → Near s (position s s.goal) (position s p) at
        → (t : Bool) → (slice_index cells (place_at s at) == 0) ≡ t
        → cond t None (Some (record { target = place_at s at; cost = slice_index cells (place_at s at) })) ≡ Some l → Entered cells s p l
    into at here near true test e = cc
    into at here near false test e =
        let same : record { target = place_at s at; cost = slice_index cells (place_at s at) } ≡ l = cc in
        let target : place_at s at ≡ l.target = ap (λ (x : Leg). x.target) same in
        let cost : slice_index_or cells (place_at s at) 0 ≡ l.cost = ap (λ (x : Leg). x.cost) same in
        record {
          here = here;
          at = at;
          near = near;
          target = target;
          cost = ap (λ q. slice_index cells q) (sym target) ∙ cost;
          some = omega (arith, cost, eqb-false _ _ test);
        }

    toward : p < area s → (o : Option Position) → neighbour s (position s p) (direction k) ≡ o → leg_into cells s o ≡ Some l → Entered cells s p l
    toward here None is e = cc
    toward here (Some at) is e =
        into at here (neighbour_near s (position s s.goal) (position s p) at (direction k) (position_on s p sides here) is)
        (slice_index cells (place_at s at) == 0) refl e

    listed : (t : Bool) → nat_lt k (leg_count s p) ≡ t
        → cond t (leg_into cells s (neighbour s (position s p) (direction k))) None ≡ Some l → Entered cells s p l
    listed true test e =
        let here : p < area s = grind (arith, ltb-true _ _ test) in
        toward here (neighbour s (position s p) (direction k)) refl e
    listed false test e = cc

-- Off the grid a value held by its area is its default.
off : {A : Type 0} (p size : ℕ) (x y : A) → size ≤ p → cond (nat_lt p size) x y ≡ y
off p size x y h = cond-false (nat_lt p size) x y (le-ltb p size h)

module _ (cells : List ℕ) (s : GridShape) (formed : Formed cells s) where
  -- an estimate that counts at most so much for each leg is within the limit
  estimate_small : (each p : ℕ) → each ≤ 255 → cond (nat_lt p (area s)) (each * to_goal s p) 0 ≤ limit
  estimate_small each p small =
      grind (arith, λ (on : p < area s). mul-le each (to_goal s p) 255 126 small (to_goal_small s p formed.sides formed.goal on))

  grid_limits : Limits (grid_floor cells s)
  grid_limits = record {
    some_place = mul-le 1 1 s.width s.height formed.sides.some_width formed.sides.some_height;
    few_places = mul-le s.width s.height 64 64 formed.sides.width formed.sides.height;
    few_legs = λ p. grind arith;
    targets = λ p k l e. let x = entered cells s p k l formed.sides e in subst (λ q. q < area s) x.target (place_on s x.at x.near.inside);
    costs = λ p k l e. omega (arith, (entered cells s p k l formed.sides e).cost, formed.bytes l.target);
    lows = λ p. estimate_small (least_nonzero cells) p (least_within 255 cells formed.bytes);
  }

  grid_outside : Outside (grid_floor cells s)
  grid_outside = record {
    no_legs = λ p h. off p (area s) _ _ h;
    past_list = λ p k h. off k (leg_count s p) _ _ h;
    no_goal = λ p h. ne_eqb p s.goal (λ same. omega (arith, formed.goal));
    no_low = λ p h. off p (area s) _ _ h;
  }

  low_is : (p : ℕ) → p < area s → low_of cells s p ≡ least_nonzero cells * to_goal s p
  low_is p h = cond-true (nat_lt p (area s)) _ _ (lt-ltb p (area s) h)

  goal_zero : (p : ℕ) → (p == s.goal) ≡ true → low_of cells s p ≡ 0
  goal_zero p e =
      let same : s.goal ≡ p = sym (eqb-true p s.goal e) in
      subst (λ q. low_of cells s q ≡ 0) same
      (low_is s.goal formed.goal ∙ ap (λ d. least_nonzero cells * d) (none (position s s.goal)) ∙ mul-zero (least_nonzero cells))
    where
      none : (at : Position) → distance at at ≡ 0
      none at = omega arith

  -- a leg costs at least the least nonzero byte, and brings the goal nearer by at most 1
  leg_gentle : (p k : ℕ) (l : Leg) → leg_of cells s p k ≡ Some l → low_of cells s p ≤ l.cost + low_of cells s l.target
  leg_gentle p k l e =
      let x = entered cells s p k l formed.sides e in
      let m : ℕ = least_nonzero cells in
      let inside : l.target < area s = subst (λ q. q < area s) x.target (place_on s x.at x.near.inside) in
      let there : to_goal s l.target ≡ distance x.at (position s s.goal) =
      ap (λ q. distance q (position s s.goal)) (ap (position s) (sym x.target) ∙ position_back s x.at x.near.inside) in
      let least : m ≤ l.cost = subst (λ c. m ≤ c) x.cost ((least_is cells).below l.target (subst (λ c. 0 < c) (sym x.cost) x.some)) in
      let step : to_goal s p ≤ 1 + to_goal s l.target = subst (λ d. to_goal s p ≤ 1 + d) (sym there) x.near.gentle in
      let more : m * to_goal s p ≤ m * (1 + to_goal s l.target) = mul-le-mul_left m step in
      rw (low_is p x.here, low_is l.target inside)
      (omega (arith, more, mul-add m 1 (to_goal s l.target), mul-one m, least))

  grid_consistent : Consistent (grid_floor cells s)
  grid_consistent = record { goals = goal_zero; legs = leg_gentle }

pub grid_sound : (cells : List ℕ) (s : GridShape) → Formed cells s → Sound (grid_floor cells s)
grid_sound cells s formed = record {
  limits = grid_limits cells s formed;
  outside = grid_outside cells s formed;
  admissible = consistent_admissible (grid_floor cells s) (grid_consistent cells s formed);
}

pub grid_limited : (cells : List ℕ) (s : GridShape) → Formed cells s → Limited (grid_guesses cells s)
grid_limited cells s formed =
    let least : least_nonzero cells ≤ 255 = least_within 255 cells formed.bytes in
    let most : greatest cells ≤ 255 = greatest_within 255 cells formed.bytes in
    record {
      hopes = λ p. estimate_small cells s formed ((least_nonzero cells + greatest cells) / 2) p (omega arith);
      step_counts = λ p. grind (arith, to_goal_small s p formed.sides formed.goal);
    }
