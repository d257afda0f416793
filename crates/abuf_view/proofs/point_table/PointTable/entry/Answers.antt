use Rattle.std.proofs.Common.{◌∙◌, ap, ◌/◌, ◌^◌, List, [], Option, None, slice_index_or}
use Rattle.abuf_view.specs.declared.short_points.ShortPoint.{ShortPoint}
use Rattle.abuf_view.proofs.Tables.{entry_is}
use Rattle.abuf_view.proofs.point_table.PointTable.entry.Goals as goal

pub returns : goal.returns
returns c =
    let self = c.args.self.now in
    let place = c.args.place in
    let found = c.entry_at.ensures ∙ ap (λ (l : List (List (Option ShortPoint))). slice_index_or (slice_index_or l (place / 2 ^ self.bits) []) c.offset_in_chunk.result None) c.as_slice.ensures.value in
    entry_is self.eye self.points.now self.bits place c.offset_in_chunk.result self.chunks.items c.entry_at.result self.entries c.offset_in_chunk.ensures found
