use Rattle.std.proofs.Common.{◌≡◌, [], Err, ap, refl, rules, subst}
use Rattle.std.proofs.lemmas.List.{append-nil}
use Rattle.tv_io.proofs.PenLemmas.{Cuts-from_stopped, Puts-along, Puts-then, Takes-from_went_on}
use Rattle.tv_model.specs.Log.LogText.{log_text}
use Rattle.tv_script.proofs.FeedLemmas.{fed_start}
use Rattle.tv_script.proofs.PerformLemmas.{first_stops}
use Rattle.tv_script.specs.declared.stream_fault.StreamFault.TheVariants.{Write}
use Rattle.tv_script.specs.Streams.{ComesFrom}
use Rattle.tv_script.specs.Streams.ComesFrom.{unwritten}
use Rattle.tv_script.proofs.streaming.perform_from.Goals as goal

pub returns-then-pen : goal.returns-then-pen
returns-then-pen g c = λ s stands.
    let reader = g.R.Reader.seen c.args.reader.now in
    let Left = g.S.Stage.stands c.put_waiting_log.new.stage in
    let log = log_text s.desc s.state.log in
    let lent : g.W.Writer.seen c.pass_on.new.self.out.now ≡ g.W.Writer.seen c.out-1.given.0 = ap g.W.Writer.seen (search rules) in
    let puts = Puts-along (append-nil log) (Puts-then (c.put_waiting_log.ensures.text s stands) c.pass_on.ensures.puts) in
    subst (λ x. ComesFrom s reader reader (g.W.Writer.seen c.args.out.now) x Left (Err (Write 0))) lent
    (unwritten refl (first_stops s [] Left (c.put_waiting_log.ensures.state s stands) (Cuts-from_stopped refl c.if-pen.true puts)) refl)

pub returns : goal.returns
returns g c = λ s stands.
    let Left = g.S.Stage.stands c.put_waiting_log.new.stage in
    let log = log_text s.desc s.state.log in
    let old = g.W.Writer.seen c.args.out.now in
    let lent : g.W.Writer.seen c.perform_all.new.pen.out.now ≡ g.W.Writer.seen c.out-2-1.given.0 = ap g.W.Writer.seen (search rules) in
    let puts = Puts-along (append-nil log) (Puts-then (c.put_waiting_log.ensures.text s stands) c.pass_on.ensures.puts) in
    let screen = c.in_ok-feed.ensures.screen in
    let fed = fed_start s c.in_ok-feed.feed old _ Left (record { width = search rules; height = search rules }) c.in_ok-feed.ensures.empty c.in_ok-feed.ensures.start (Takes-from_went_on c.if-pen.false puts) (c.put_waiting_log.ensures.state s stands) in
    subst (λ x. ComesFrom s (g.R.Reader.seen c.args.reader.now) (g.R.Reader.seen c.perform_all.new.reader) old x (g.S.Stage.stands c.perform_all.new.stage) c.perform_all.result) lent
    (c.perform_all.ensures.comes s old fed)
