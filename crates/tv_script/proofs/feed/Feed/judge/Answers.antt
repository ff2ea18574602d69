use Rattle.std.proofs.Common.{rules}
use Rattle.tv_script.specs.ScriptLines.{line_meant}
use Rattle.tv_script.proofs.EventLemmas.{shown_line}
use Rattle.tv_script.proofs.feed.Feed.judge.Goals as goal

pub returns-clause-shown : goal.returns-clause-shown
returns-clause-shown c =
    let feed = c.args.self.now in
    shown_line feed.width feed.height feed.columns feed.rows (line_meant c.in-Some-found.line) (search rules)
