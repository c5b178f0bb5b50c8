-- Commands: their first bytes, their layers, how many bytes of operands they have, and the lines that they stand for.
use Rattle.std.specs.Prelude.{ℕ, ◌+◌, ◌*◌, Bool, true, false, cond, List, length, ℤ, Some, None, Option, ◌==◌, nat_lt, slice_index}
use Rattle.std.specs.Int.{w32}
use Rattle.std.proofs.Common.{to_z}
use Rattle.codelist.specs.declared.lines.Line.TheVariants.{X as PointLine, C as ConstantLine, R as ReadingLine, Neg as NegLine, Abs as AbsLine, Add as AddLine, Sub as SubLine, Mul as MulLine, Div as DivLine, Max as MaxLine, Chi as ChiLine}
use Rattle.book.specs.declared.ops.Op.{Op}
use Rattle.book.specs.declared.ops.Op.TheVariants.{X, C, R, Neg, Abs, Add, Sub, Mul, Div, Max, Chi, Curve, End, Table}
use Rattle.book.specs.declared.ops.Command.{Command}
use Rattle.book.specs.declared.ops.Command.TheVariants.{Line, Open, Close, Table as Framed}
use Rattle.book.specs.declared.refusals.Layer.{Layer}
use Rattle.book.specs.declared.refusals.Layer.TheVariants.{Record as RecordLayer, Line as LineLayer}

abbrev pub op_of : ℕ → Option Op
op_of b = cond (b == 0x01) (Some X) (cond (b == 0x02) (Some C) (cond (b == 0x03) (Some R) (cond (b == 0x10) (Some Neg) (cond (b == 0x11) (Some Abs) (cond (b == 0x12) (Some Add) (cond (b == 0x13) (Some Sub) (cond (b == 0x14) (Some Mul) (cond (b == 0x15) (Some Div) (cond (b == 0x16) (Some Max) (cond (b == 0x18) (Some Chi) (cond (b == 0x20) (Some Curve) (cond (b == 0x21) (Some End) (cond (b == 0x30) (Some Table) None)))))))))))))

-- CURVE, END and TABLE frame the records; the others are code lines
abbrev pub layer_of : Op → Layer
layer_of X = LineLayer
layer_of C = LineLayer
layer_of R = LineLayer
layer_of Neg = LineLayer
layer_of Abs = LineLayer
layer_of Add = LineLayer
layer_of Sub = LineLayer
layer_of Mul = LineLayer
layer_of Div = LineLayer
layer_of Max = LineLayer
layer_of Chi = LineLayer
layer_of Curve = RecordLayer
layer_of End = RecordLayer
layer_of Table = RecordLayer

-- how many bytes the operands of a command take that begins with bs: line and reading numbers take one, a constant four, a tag eight; TABLE has
-- a tag, a reading's number, a knot count, and eight bytes for each knot
abbrev pub operand_bytes : Op → List ℕ → ℕ
operand_bytes X bs = 0
operand_bytes C bs = 4
operand_bytes R bs = 1
operand_bytes Neg bs = 1
operand_bytes Abs bs = 1
operand_bytes Add bs = 2
operand_bytes Sub bs = 2
operand_bytes Mul bs = 2
operand_bytes Div bs = 2
operand_bytes Max bs = 2
operand_bytes Chi bs = 3
operand_bytes Curve bs = 8
operand_bytes End bs = 0
operand_bytes Table bs = 10 + 8 * slice_index bs 10

-- the signed number in the four bytes from place i on, the highest first
abbrev pub signed_at : List ℕ → ℕ → ℤ
signed_at bs i = to_z w32 (slice_index bs i * 16777216 + slice_index bs (i + 1) * 65536 + slice_index bs (i + 2) * 256 + slice_index bs (i + 3))

-- the command that begins with bs
abbrev pub command_of : Op → List ℕ → Command
command_of X bs = Line PointLine
command_of C bs = Line (ConstantLine (signed_at bs 1))
command_of R bs = Line (ReadingLine (slice_index bs 1))
command_of Neg bs = Line (NegLine (slice_index bs 1))
command_of Abs bs = Line (AbsLine (slice_index bs 1))
command_of Add bs = Line (AddLine (slice_index bs 1) (slice_index bs 2))
command_of Sub bs = Line (SubLine (slice_index bs 1) (slice_index bs 2))
command_of Mul bs = Line (MulLine (slice_index bs 1) (slice_index bs 2))
command_of Div bs = Line (DivLine (slice_index bs 1) (slice_index bs 2))
command_of Max bs = Line (MaxLine (slice_index bs 1) (slice_index bs 2))
command_of Chi bs = Line (ChiLine (slice_index bs 1) (slice_index bs 2) (slice_index bs 3))
command_of Curve bs = Open
command_of End bs = Close
command_of Table bs = Framed

-- none where the operands end too early
abbrev pub command_at : Op → List ℕ → Option Command
command_at op bs = cond (nat_lt (operand_bytes op bs) (length bs)) (Some (command_of op bs)) None

-- the same of the commands that are no lines
abbrev pub is_frame : Op → Bool
is_frame X = false
is_frame C = false
is_frame R = false
is_frame Neg = false
is_frame Abs = false
is_frame Add = false
is_frame Sub = false
is_frame Mul = false
is_frame Div = false
is_frame Max = false
is_frame Chi = false
is_frame Curve = true
is_frame End = true
is_frame Table = true

abbrev pub frame_at : Op → List ℕ → Option Command
frame_at op bs = cond (is_frame op) (command_at op bs) None
