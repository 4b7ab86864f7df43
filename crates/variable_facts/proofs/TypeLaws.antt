-- The type of a variable.
use Rattle.format.specs.Variables.{VarType}
use Rattle.questions.specs.Readings.{Try, got, bind}
use Rattle.questions.specs.Ask.{Answer, typed}

-- a type as an answer
abbrev pub type_told : Try VarType → Try Answer
type_told x = bind x λ t. got (typed t)
