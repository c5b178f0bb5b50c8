-- The numbers of refusals and layers, case by case.
use Rattle.std.specs.Prelude.{ℕ}
use Rattle.book.specs.declared.refusals.Fault.{Fault}
use Rattle.book.specs.declared.refusals.Fault.TheVariants.{TooLong, Unknown, CutShort, Misplaced, Operand, Range, Lines, TooMany, Knots}
use Rattle.book.specs.declared.refusals.Layer.{Layer}
use Rattle.book.specs.declared.refusals.Layer.TheVariants.{Orders, Book, Record, Line}

abbrev pub fault_number : Fault → ℕ
fault_number TooLong = 20
fault_number Unknown = 21
fault_number CutShort = 22
fault_number Misplaced = 23
fault_number Operand = 24
fault_number Range = 25
fault_number Lines = 26
fault_number TooMany = 27
fault_number Knots = 28

abbrev pub layer_number : Layer → ℕ
layer_number Orders = 0
layer_number Book = 1
layer_number Record = 2
layer_number Line = 3
