-- What making a grid answers.
use Rattle.std.specs.Prelude.{◌≡◌, ℕ, IfOk, IfErr, vec_items, vec_len, Result, Vec}
use Rattle.std.specs.declared.alloc.Global.{Global}
use Rattle.floors.specs.declared.grid.Grid.{Grid}
use Rattle.floors.specs.declared.grid_fault.GridRefused.{GridRefused}
use Rattle.floors.specs.declared.grid_shape.GridShape.{GridShape}
use Rattle.floors.specs.Grid.{grid_floor, grid_guesses}
use Rattle.floors.specs.GridQuestions.{grid_number, grid_questions}
use Rattle.floors.specs.Guided.{Guesses}
use Rattle.floors.specs.Meaning.{Meaning}
use Rattle.floors.specs.Questions.{first_no, refusal}

-- What a grid means, and its guesses.
abbrev pub grid_meaning : Grid → Meaning
grid_meaning g = grid_floor (vec_items g.cells) g.frame.shape

abbrev pub guesses_of : Grid → Guesses
guesses_of g = grid_guesses (vec_items g.cells) g.frame.shape

pub record GridMade (s : GridShape) (cells : Vec ℕ Global) (r : Result Grid GridRefused) : Type 0 where
  -- the answer: the number of the first question answered no, if there is one
  pub answer : refusal (λ (x : GridRefused). grid_number x.fault) r ≡ first_no (grid_questions s (vec_len cells))
  -- an accepted grid means the floor of these cells, guesses included
  pub means : IfOk r (λ g. grid_meaning g ≡ grid_floor (vec_items cells) s)
  pub guesses : IfOk r (λ g. guesses_of g ≡ grid_guesses (vec_items cells) s)
  -- and keeps the cells
  pub keeps : IfOk r (λ g. g.cells ≡ cells)
  -- a refusal hands the cells back as they were
  pub back : IfErr r (λ x. x.cells ≡ cells)
