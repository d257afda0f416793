use Rattle.std.proofs.Common.{ℕ, ◌+◌, ◌-◌, [], slice_index, slice_index_or, ap, ◌∙◌, arith, inl}
use Rattle.abuf_frame.proofs.Eight.{begins, ends, advances_walk, refers}
use Rattle.abuf_frame.proofs.closed.Closed.copy_eights.Goals as goal

pub loop-init : goal.loop-init
loop-init c = let pixels : ℕ = c.self.inside.pixels in let nodes : ℕ = c.self.inside.table_nodes in let words = c.self.inside.words in (
  c.clear_all.ensures.length,
  c.clear_all-2.ensures.length,
  (λ k l. begins words pixels nodes c.self.invariant.0 (c.args.pixel + k) (nodes - 0) _ _ (omega arith) (c.heads-at.ensures.heads k l) (c.clear_all.ensures.empty k l)),
  (λ k l. begins words pixels nodes c.self.invariant.0 (c.args.other + k) (nodes - 0) _ _ (omega arith) (c.heads-other_at.ensures.heads k l) (c.clear_all-2.ensures.empty k l)),
)

pub advance_all-requires : goal.advance_all-requires
advance_all-requires c = λ k l. let w = c.loop.invariant.2 k l in
    refers c.self.inside.words c.self.inside.pixels c.self.inside.table_nodes (slice_index c.loop.at k) w.rest c.self.invariant.0.sized.3 c.self.invariant.0.wide w.threaded

pub advance_all-requires-in-loop : goal.advance_all-requires-in-loop
advance_all-requires-in-loop c = λ k l. let w = c.loop.invariant.3 k l in
    refers c.self.inside.words c.self.inside.pixels c.self.inside.table_nodes (slice_index c.loop.other_at k) w.rest c.self.invariant.0.sized.3 c.self.invariant.0.wide w.threaded

pub loop-preserved : goal.loop-preserved
loop-preserved c = let e = c.in_ok-advance_all.ensures in let f = c.in_ok-advance_all-2.ensures in (
  e.length.1,
  f.length.1,
  (λ k l. advances_walk c.self.inside.words c.self.inside.pixels c.self.inside.table_nodes c.loop.counter (slice_index c.loop.at k) _ _ _ _ c.loop-test.true (e.lanes k l) (c.loop.invariant.2 k l)),
  (λ k l. advances_walk c.self.inside.words c.self.inside.pixels c.self.inside.table_nodes c.loop.counter (slice_index c.loop.other_at k) _ _ _ _ c.loop-test.true (f.lanes k l) (c.loop.invariant.3 k l)),
)

pub returns-then-both_ended-clause-lists : goal.returns-then-both_ended-clause-lists
returns-then-both_ended-clause-lists c = λ k l. let w = c.loop.invariant.2 k l in
    ends c.self.inside.words c.self.inside.pixels c.self.inside.table_nodes (c.self.inside.table_nodes - c.loop.counter) (slice_index c.loop.at k) _ _ (inl (c.both_ended.ensures.at c.if-both_ended.true k l)) w
    ∙ ap (λ h. slice_index_or h.lists (c.args.pixel + k) []) c.self.view_is

pub returns-then-both_ended-clause-others : goal.returns-then-both_ended-clause-others
returns-then-both_ended-clause-others c = λ k l. let w = c.loop.invariant.3 k l in
    ends c.self.inside.words c.self.inside.pixels c.self.inside.table_nodes (c.self.inside.table_nodes - c.loop.counter) (slice_index c.loop.other_at k) _ _ (inl (c.both_ended.ensures.others c.if-both_ended.true k l)) w
    ∙ ap (λ h. slice_index_or h.lists (c.args.other + k) []) c.self.view_is
