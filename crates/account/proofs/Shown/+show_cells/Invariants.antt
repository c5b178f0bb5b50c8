use Rattle.account.specs.Cells.{width}
use Rattle.account.proofs.Shown.+show_cells.Given as goal

-- each half is narrower than the cell
abbrev pub decreases-show_cells : goal.decreases-show_cells
decreases-show_cells l = width l.cell
