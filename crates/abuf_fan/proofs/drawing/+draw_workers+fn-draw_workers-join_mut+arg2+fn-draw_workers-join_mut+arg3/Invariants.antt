use Rattle.abuf_fan.proofs.drawing.+draw_workers+fn-draw_workers-join_mut+arg2+fn-draw_workers-join_mut+arg3.Given as goal

abbrev pub decreases-draw_workers : goal.decreases-draw_workers
decreases-draw_workers g l = l.workers.count

abbrev pub decreases-join_mut+arg2 : goal.decreases-join_mut+arg2
decreases-join_mut+arg2 g l = l.left.count

abbrev pub decreases-join_mut+arg3 : goal.decreases-join_mut+arg3
decreases-join_mut+arg3 g l = l.right.count
