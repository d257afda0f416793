use Rattle.std.proofs.Common.{◌-◌, length}
use Rattle.abuf_fan.proofs.bound.survey_of.Given as goal

abbrev pub decreases-loop-i : goal.decreases-loop-i
decreases-loop-i l = length l.tris - l.i
