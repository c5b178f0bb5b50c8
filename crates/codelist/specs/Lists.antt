-- A code list as the list of its lines, and what adding a line gives.
use Rattle.std.specs.Prelude.{◌≡◌, List, [], ◌∷◌, ◌++◌, length, Some, None, Ok, Err, Option, Result}
use Rattle.bounded.specs.Lists.{items_of}
use Rattle.codelist.specs.declared.lines.Line.{Line}
use Rattle.codelist.specs.declared.lines.LineRefusal.{LineRefusal}
use Rattle.codelist.specs.declared.lists.CodeList.{CodeList}
use Rattle.codelist.specs.Lines.{fault}

abbrev pub lines_of : CodeList → List Line
lines_of c = items_of c.lines

-- a list begun with a line that may stand first; otherwise the refusal
abbrev pub Begun : Line → Result CodeList LineRefusal → Type 0
Begun l (Ok c) = (fault 0 l ≡ None) × (lines_of c ≡ l ∷ [])
Begun l (Err f) = fault 0 l ≡ Some f

-- the answer and the lines after a line is added, by its fault
abbrev pub answer_by : Option LineRefusal → Result (Unit {0}) LineRefusal
answer_by None = Ok tt
answer_by (Some f) = Err f

abbrev pub lines_by : Option LineRefusal → List Line → Line → List Line
lines_by None ls l = ls ++ (l ∷ [])
lines_by (Some f) ls l = ls

abbrev pub push_answer : List Line → Line → Result (Unit {0}) LineRefusal
push_answer ls l = answer_by (fault (length ls) l)

abbrev pub pushed : List Line → Line → List Line
pushed ls l = lines_by (fault (length ls) l) ls l
