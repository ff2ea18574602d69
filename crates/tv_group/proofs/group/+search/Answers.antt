use Rattle.std.proofs.Common.{arith, ◌≡◌, ◌+◌, ◌<◌, ◌≤◌, true, is_some, length, get_or, ap, sym, ◌∙◌}
use Rattle.tv_group.specs.Calls.{ordered}
use Rattle.tv_group.specs.Current.{is_at}
use Rattle.tv_group.specs.Searching.{found_in, looks_at, kth_place, searched}
use Rattle.tv_group.proofs.OpenedLemmas.{member-leaf, member-pane}
use Rattle.tv_group.proofs.SearchLemmas.{searched-leaf, sought-found, sought-none, sought-looked, sought-skipped, sought-all}
use Rattle.tv_group.proofs.group.+search.Goals as goal
use Rattle.tv_group.proofs.group.+search.Goals.{GroupOf::search-then-looks_at+else-is_some, GroupOf::search-else-looks_at}

pub GroupOf::search-loop-k-init : goal.GroupOf::search-loop-k-init
GroupOf::search-loop-k-init g t c = sought-none g.V.View.meaning c.args.dir c.args.from c.args.self.now

pub GroupOf::search-loop-k-preserved : goal.GroupOf::search-loop-k-preserved
GroupOf::search-loop-k-preserved g t c =
    let look = g.V.View.meaning in let s = c.args.self.now in let p = c.loop-k in let dir = c.args.dir in
    let h : p.k < length s.members.items = omega arith in
    let at : c.place-i.result ≡ kth_place dir p.k (length s.members.items) =
    c.place-i.ensures.is ∙ ap (kth_place dir p.k) (c.len.ensures ∙ s.members.ok.0) in
    let looks : c.looks_at.result ≡ looks_at p.search (is_at s.current (kth_place dir p.k (length s.members.items))) =
    c.looks_at.ensures ∙ ap (looks_at p.search) (c.is_current.ensures ∙ ap (is_at s.current) at) in
    elim c.if-looks_at.branch [
      | GroupOf::search-then-looks_at+else-is_some w ↦
          sought-looked look dir c.args.from p.search c.if-looks_at.search p.k s w.index.result.now h
          (w.index.ensures ∙ ap (λ i. get_or s.members.items i w.index.result.now) at)
          (sym looks ∙ w.if-looks_at.true) (w.search-is ∙ w.search-search.ensures) p.invariant
      | GroupOf::search-else-looks_at w ↦
          sought-skipped look dir c.args.from p.search c.if-looks_at.search p.k s h
          (sym looks ∙ w.if-looks_at.false) w.search-is p.invariant
    ]

pub GroupOf::search-returns-then-is_some : goal.GroupOf::search-returns-then-is_some
GroupOf::search-returns-then-is_some g t c =
    let look = g.V.View.meaning in let s = c.args.self.now in let p = c.loop-k in let dir = c.args.dir in
    let h : p.k < length s.members.items = omega arith in
    let at : c.place-i.result ≡ kth_place dir p.k (length s.members.items) =
    c.place-i.ensures.is ∙ ap (kth_place dir p.k) (c.len.ensures ∙ s.members.ok.0) in
    let looks : c.looks_at.result ≡ looks_at p.search (is_at s.current (kth_place dir p.k (length s.members.items))) =
    c.looks_at.ensures ∙ ap (looks_at p.search) (c.is_current.ensures ∙ ap (is_at s.current) at) in
    let next = sought-looked look dir c.args.from p.search c.search-search.result p.k s c.index.result.now h
    (c.index.ensures ∙ ap (λ i. get_or s.members.items i c.index.result.now) at)
    (sym looks ∙ c.if-looks_at.true) c.search-search.ensures p.invariant in
    let found : is_some (found_in c.search-search.result) ≡ true = ap is_some (sym c.found.ensures) ∙ (sym c.is_some.ensures ∙ c.if-is_some.true) in
    sought-found look dir c.args.from c.search-search.result (p.k + 1) s found (omega arith) next

pub GroupOf::search-returns : goal.GroupOf::search-returns
GroupOf::search-returns g t c =
    let s = c.args.self.now in let p = c.loop-k in
    let h : length s.members.items ≤ p.k = omega arith in
    sought-all g.V.View.meaning c.args.dir c.args.from p.search p.k s h p.invariant

pub MemberOf::search-returns-in-Leaf : goal.MemberOf::search-returns-in-Leaf
MemberOf::search-returns-in-Leaf g t c =
    let look = g.V.View.meaning in
    c.on_to.ensures ∙ searched-leaf c.args.from c.args.dir (look c.in-Leaf.view)
    ∙ sym (ap (λ xs. searched c.args.from (ordered c.args.dir xs)) (member-leaf look c.args.self.now c.in-Leaf.view c.in-Leaf.is))

pub MemberOf::search-returns-in-Pane : goal.MemberOf::search-returns-in-Pane
MemberOf::search-returns-in-Pane g t c =
    c.search.ensures
    ∙ sym (ap (λ xs. searched c.args.from (ordered c.args.dir xs))
    (member-pane g.V.View.meaning c.args.self.now c.in-Pane.group c.in-Pane.is))
