use Rattle.abuf_share.proofs.desk.Turn.split.Given as goal

abbrev pub ghosts-split_at : goal.ghosts-split_at
ghosts-split_at a = record { credit = a._credit }
