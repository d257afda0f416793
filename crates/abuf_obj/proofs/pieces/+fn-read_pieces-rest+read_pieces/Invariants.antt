use Rattle.abuf_obj.proofs.pieces.+fn-read_pieces-rest+read_pieces.Given as goal

abbrev pub decreases-rest : goal.decreases-rest
decreases-rest g l = l.others

abbrev pub decreases-read_pieces : goal.decreases-read_pieces
decreases-read_pieces g l = l.threads
