use Rattle.std.proofs.Common.{rules, ◌<◌, ◌-◌, ℕ, [], ap, sym, ◌∙◌, arith, inl, inr, cond, slice_index, slice_index_or}
use Rattle.std.proofs.lemmas.Bool.{lt-ltb}
use Rattle.abuf_frame.specs.Words.{head_word}
use Rattle.abuf_frame.proofs.Eight.{advances_walk, begins, ends, refers}
use Rattle.abuf_frame.proofs.closed.Closed.copy_list.Goals as goal

pub loop-init : goal.loop-init
loop-init c = let pixels : ℕ = c.self.inside.pixels in let nodes : ℕ = c.self.inside.table_nodes in let on : c.args.pixel < pixels = search rules in
    begins c.self.inside.words pixels nodes c.self.invariant.0 c.args.pixel (nodes - 0) _ _ (omega arith)
    (c.word-at.ensures ∙ sym (ap (λ b. cond b (slice_index c.self.inside.words (head_word c.args.pixel)) 0) (lt-ltb c.args.pixel pixels on))) (search rules)

pub advance-requires : goal.advance-requires
advance-requires c = let w = c.loop.invariant in refers c.self.inside.words c.self.inside.pixels c.self.inside.table_nodes c.loop.at w.rest c.self.invariant.0.sized.3 c.self.invariant.0.wide w.threaded

pub loop-preserved : goal.loop-preserved
loop-preserved c = advances_walk c.self.inside.words c.self.inside.pixels c.self.inside.table_nodes c.loop.counter c.loop.at c.in_ok-at.at _ _ _ c.loop-test.true c.in_ok-at.ensures c.loop.invariant

pub returns-after-loop : goal.returns-after-loop
returns-after-loop c = ends c.self.inside.words c.self.inside.pixels c.self.inside.table_nodes (c.self.inside.table_nodes - c.loop.counter) c.loop.at _ _ (inr (omega arith)) c.loop.invariant ∙ ap (λ h. slice_index_or h.lists c.args.pixel []) c.self.view_is

pub returns-then-at-eq0 : goal.returns-then-at-eq0
returns-then-at-eq0 c = ends c.self.inside.words c.self.inside.pixels c.self.inside.table_nodes (c.self.inside.table_nodes - c.loop.counter) c.loop.at _ _ (inl (search rules)) c.loop.invariant ∙ ap (λ h. slice_index_or h.lists c.args.pixel []) c.self.view_is
