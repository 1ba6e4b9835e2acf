-- What `left_right`'s writer holds.
use Rattle.std.specs.Prelude.{List, drop, fold}
use Rattle.left_right.specs.declared.Absorb.{Ghosts}
use Rattle.left_right.specs.declared.writer.Writer.{Writer}

module _ {T O V P A S : Type 0} {g : Ghosts T O S} where
  -- what readers take now
  abbrev pub shown_in : Writer T O V P A S g → T
  shown_in w = w.desk.shown.value

  -- what was appended and isn't shown yet
  abbrev pub waiting_in : Writer T O V P A S g → List O
  waiting_in w = drop w.behind w.log.items

-- the last of those that replace each other
abbrev pub last_of : {X : Type 0} → X → List X → X
last_of x next = fold (λ _ y. y) x next
