-- The lines of a curve, from behind its tag to its END.
use Rattle.std.specs.Prelude.{ℕ, zero, suc, cond, List, [], ◌∷◌, ◌++◌, length, Some, None, Ok, Err, Option, Result, ◌==◌, slice_index}
use Rattle.codelist.specs.declared.lines.Line.{Line as CodeLine}
use Rattle.codelist.specs.declared.lines.LineRefusal.{LineRefusal}
use Rattle.codelist.specs.declared.lines.LineRefusal.TheVariants.{Operand as BadOperand, Constant as BadConstant, Full as FullList}
use Rattle.codelist.specs.Lines.{fault}
use Rattle.book.specs.declared.ops.Op.{Op}
use Rattle.book.specs.declared.ops.Command.{Command}
use Rattle.book.specs.declared.ops.Command.TheVariants.{Line, Open, Close, Table}
use Rattle.book.specs.declared.refusals.Fault.{Fault}
use Rattle.book.specs.declared.refusals.Fault.TheVariants.{Unknown, CutShort, Misplaced, Operand, Range, Lines}
use Rattle.book.specs.declared.refusals.Layer.{Layer}
use Rattle.book.specs.declared.refusals.Layer.TheVariants.{Book as BookLayer, Record as RecordLayer, Line as LineLayer}
use Rattle.book.specs.declared.refusals.Refusal.{Refusal}
use Rattle.book.specs.Ops.{op_of, layer_of, operand_bytes, command_at}

-- the fault of a line that may not stand in its list
abbrev pub fault_of : LineRefusal → Fault
fault_of BadOperand = Operand
fault_of BadConstant = Range
fault_of FullList = Lines

-- what a command inside a curve does
pub data Inside : Type 0 where
  -- it is a line, whose operands take so many bytes
  a_line : CodeLine → ℕ → Inside
  -- it closes the curve
  closes : Inside
  stops : Fault → Layer → Inside

abbrev pub line_by : Option LineRefusal → CodeLine → ℕ → Inside
line_by None l w = a_line l w
line_by (Some r) l w = stops (fault_of r) LineLayer

-- with k lines before it: a line is looked at by the rules of lists; END wants a line before it; CURVE and TABLE are misplaced
abbrev pub inside_by : ℕ → ℕ → Command → Inside
inside_by k w (Line l) = line_by (fault k l) l w
inside_by k w Open = stops Misplaced RecordLayer
inside_by k w Close = cond (k == 0) (stops Lines RecordLayer) closes
inside_by k w Table = stops Misplaced RecordLayer

abbrev pub inside_if : ℕ → Op → ℕ → Option Command → Inside
inside_if k op w None = stops CutShort (layer_of op)
inside_if k op w (Some c) = inside_by k w c

abbrev pub inside_of : ℕ → Option Op → List ℕ → Inside
inside_of k None bs = stops Unknown BookLayer
inside_of k (Some op) bs = inside_if k op (operand_bytes op bs) (command_at op bs)

-- the command that begins with bs
abbrev pub inside : ℕ → List ℕ → Inside
inside k bs = inside_of k (op_of (slice_index bs 0)) bs

abbrev pub refused : Fault → Layer → ℕ → Refusal
refused f y at = record { fault = f; layer = y; offset = at }

abbrev pub go_on : (CodeLine → ℕ → Result (List CodeLine × ℕ) Refusal) → List CodeLine → ℕ → Inside → Result (List CodeLine × ℕ) Refusal
go_on next ls at (a_line l w) = next l w
go_on next ls at closes = Ok (ls, at)
go_on next ls at (stops f y) = Err (refused f y at)

-- with the lines so far, n bytes of operands still to pass over, and the offset of what is left of the book: all lines and END's offset. A curve that
-- is still open at the book's end is cut short there.
abbrev pub lines_from : List CodeLine → ℕ → ℕ → List ℕ → Result (List CodeLine × ℕ) Refusal
lines_from ls n at [] = Err (refused CutShort RecordLayer at)
lines_from ls (suc n) at (b ∷ bs) = lines_from ls n (suc at) bs
lines_from ls zero at (b ∷ bs) = go_on (λ l w. lines_from (ls ++ (l ∷ [])) w (suc at) bs) ls at (inside (length ls) (b ∷ bs))

-- the command that begins with bs, at that offset, and how many bytes its operands take; or why there is none
abbrev pub command_read_if : ℕ → Op → ℕ → Option Command → Result (Command × ℕ) Refusal
command_read_if at op w None = Err (refused CutShort (layer_of op) at)
command_read_if at op w (Some m) = Ok (m, w)

abbrev pub command_read_of : ℕ → Option Op → List ℕ → Result (Command × ℕ) Refusal
command_read_of at None bs = Err (refused Unknown BookLayer at)
command_read_of at (Some op) bs = command_read_if at op (operand_bytes op bs) (command_at op bs)

abbrev pub command_read : ℕ → List ℕ → Result (Command × ℕ) Refusal
command_read at bs = command_read_of at (op_of (slice_index bs 0)) bs
