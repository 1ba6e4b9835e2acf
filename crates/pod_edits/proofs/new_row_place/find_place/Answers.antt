use Rattle.std.proofs.Common.{subst, sym, refl, ◌∙◌, List, ℕ}
use Rattle.pod_edits.proofs.Places.{Walk, walk_first, walk_step, walk_end}
use Rattle.pod_edits.proofs.new_row_place.find_place.Goals as goal

pub loop-alloc-init : goal.loop-alloc-init
loop-alloc-init g c =
    let rows = (g.S.PodState.pod c.args.state.now).rows in
    subst (λ (missing : List (List ℕ)). Walk rows c.args.path.now c.in_ok-above.above missing) (sym c.new-missing.ensures.items)
    (walk_first rows c.args.path.now c.in_ok-above.above c.in_ok-above.ensures.path c.in_ok-above.ensures.parent c.in_ok-above.ensures.parent_path)

pub loop-alloc-preserved : goal.loop-alloc-preserved
loop-alloc-preserved g c =
    let rows = (g.S.PodState.pod c.args.state.now).rows in
    subst (λ (missing : List (List ℕ)). Walk rows c.args.path.now c.in_ok-next.next missing) (sym c.in_ok-push.ensures.items)
    (walk_step rows c.args.path.now c.loop-alloc.above c.in_ok-next.next c.loop-alloc.missing.items c.loop-alloc.invariant
    (sym (c.taken.ensures ∙ g.met.S.PodState.rows_are c.args.state.now c.loop-alloc.above) ∙ c.loop-alloc-test.true)
    c.in_ok-next.ensures.parent c.in_ok-next.ensures.parent_path)

pub returns : goal.returns
returns g c =
    walk_end (g.S.PodState.pod c.args.state.now) c.args.path.now c.loop-alloc.above c.loop-alloc.missing.items (record { nearest = c.loop-alloc.above; missing = c.from_vec.result })
    c.is_well_formed.ensures c.loop-alloc.invariant
    (sym (c.taken.ensures ∙ g.met.S.PodState.rows_are c.args.state.now c.loop-alloc.above) ∙ c.loop-alloc-test.false)
    refl (c.from_vec.ensures.items ∙ c.reverse.ensures.items)
