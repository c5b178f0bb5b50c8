-- The numbers of a call from the host: 0 where it is done, else its refusal's, which is never 0.
use Rattle.std.specs.Prelude.{ℕ, ◌<◌, ℤ, pos, Ok, Err, Result}
use Rattle.std.proofs.Common.{arith}
use Rattle.hostcall.specs.declared.refusals.HostRefusal.{HostRefusal}
use Rattle.hostcall.specs.declared.refusals.HostRefusal.TheVariants.{NoRoom, Ragged, NoLine, Malformed, Line, Reading, Table}
use Rattle.family.specs.declared.readings.ReadingRefusal.TheVariants.{Ends}
use Rattle.family.specs.Readings.{number_of as reading_number}
use Rattle.codelist.specs.declared.lines.LineRefusal.TheVariants.{Operand, Constant, Full}
use Rattle.codelist.specs.Lines.{number_of as line_number}
use Rattle.knots.specs.declared.knots.TableRefusal.TheVariants.{Range, Knots, Reading as NoReading}
use Rattle.knots.specs.Knots.{number_of as table_number}

abbrev pub number_of : HostRefusal → ℕ
number_of NoRoom = 1
number_of Ragged = 1
number_of NoLine = 1
number_of Malformed = 1
number_of (Line refusal) = line_number refusal
number_of (Reading refusal) = reading_number refusal
number_of (Table refusal) = table_number refusal

-- no refusal has the number of a call that is done
pub never_zero : (refusal : HostRefusal) → 0 < number_of refusal
never_zero NoRoom = omega arith
never_zero Ragged = omega arith
never_zero NoLine = omega arith
never_zero Malformed = omega arith
never_zero (Line Operand) = omega arith
never_zero (Line Constant) = omega arith
never_zero (Line Full) = omega arith
never_zero (Reading Ends) = omega arith
never_zero (Table NoReading) = omega arith
never_zero (Table Range) = omega arith
never_zero (Table Knots) = omega arith

abbrev pub number_given : {X : Type 0} → Result X HostRefusal → ℤ
number_given (Ok x) = pos 0
number_given (Err refusal) = pos (number_of refusal)
