use Rattle.tv_window.proofs.StackLemmas.{none_declared, stack_drawn}
use Rattle.tv_window.proofs.stack.+draw_stack.Goals as goal

pub returns-in-Some-clause-declared : goal.returns-in-Some-clause-declared
returns-in-Some-clause-declared g t c = λ d r stack are lent seen.
    stack_drawn g.V.View.meaning c.args.env.now lent d r stack c.args.windows.now c.in-Some.front.now c.in-Some.behind.now c.args.canvas c.bounds.result
    c.args.screen.now c.draw_stack.new.screen c.lay_shadow.new.screen c.draw.new.screen
    c.in-Some.ensures.cases.0 seen c.bounds.ensures.is c.bounds.ensures.small are
    (λ rest more. c.draw_stack.ensures.declared d r rest more (record { owner = lent.owner; chain = lent.chain }) seen)
    c.lay_shadow.ensures.size c.lay_shadow.ensures.shows c.draw.ensures

pub returns-in_default-clause-declared : goal.returns-in_default-clause-declared
returns-in_default-clause-declared g t c = λ d r stack are lent seen. none_declared g.V.View.meaning c.args.env.now lent d r stack c.args.windows.now c.args.screen.now c.in_default.ensures.cases are
