use Rattle.tv_program.proofs.CheckLemmas.{cut-AcceptsTo}
use Rattle.tv_program.proofs.checking.accept_text.Goals as goal

pub returns-in_err-write_all : goal.returns-in_err-write_all
returns-in_err-write_all g c text described =
    cut-AcceptsTo text c.args.certificate.now (g.W.Writer.seen c.args.out.now) (g.W.Writer.seen c.write_all.new.out)
    (record {
      desc = c.args.desc;
      certificate = c.in_ok-certificate.certificate;
      described = record { spelled = described; sound = c.in_default.ensures.yes.1 };
      certified = c.in_ok-certificate.ensures.spelled;
      fits = c.in_default.ensures.yes.2;
    })
    c.in_err-write_all.ensures c.from_residual-in_err-write_all.result c.from_residual-in_err-write_all.ensures.1
