use Rattle.abuf_obj.proofs.pieces.+fn-tally_on_threads-first+fn-tally_on_threads-second+tally_on_threads.Given as goal

abbrev pub decreases-first : goal.decreases-first
decreases-first g l = l.left

abbrev pub decreases-second : goal.decreases-second
decreases-second g l = l.right

abbrev pub decreases-tally_on_threads : goal.decreases-tally_on_threads
decreases-tally_on_threads g l = l.threads
