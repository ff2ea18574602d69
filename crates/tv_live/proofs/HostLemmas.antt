-- What comes of a call of a program's host.
use Rattle.std.proofs.Common.{◌≡◌, ℕ, Bool, true, false, ◌⊎◌, inl, inr, List, [], ◌∷◌, ◌++◌, map, take, drop, length, get_or, ◌<◌, ◌+◌, Option, Some, None, Result, Ok, Err, refl, sym, ap, subst, ◌∙◌, append_assoc}
use Rattle.std.proofs.lemmas.List.{append-nil, map-append, take-append-drop, take_more}
use Rattle.tv_app.specs.Running.{Runs}
use Rattle.tv_app.specs.declared.app.App.{App}
use Rattle.tv_io.specs.Writer.{Seen}
use Rattle.tv_io.specs.declared.pen.Pen.{Pen}
use Rattle.tv_live.specs.Course.{Begins, Cause, Does, Moment, Promise}
use Rattle.tv_live.specs.Host.{Asks, HasDone, HasLived, IsEndedBy, IsLiving, LivesOn, Scene, SeesTo, outcome_of, scene_of}
use Rattle.tv_live.specs.Living.{LeavesWith}
use Rattle.tv_live.specs.Programs.{Goes}
use Rattle.tv_live.specs.Shown.{BeginsSession, HasBeenShown, IsPainterOf, PaintsSession, window_in}
use Rattle.tv_live.specs.declared.host.Host.{Host}
use Rattle.tv_live.specs.declared.program.News.{News}
use Rattle.tv_live.specs.declared.program.News.TheVariants.{Begin}
use Rattle.tv_live.specs.declared.program.Next.{Next}
use Rattle.tv_live.specs.declared.program.Next.TheVariants.{Leave, Wait}
use Rattle.tv_live.proofs.CourseLemmas.{desc-of}
use Rattle.tv_live.proofs.ShownLemmas.{shown-begun, shown-none, shown-painted}
use Rattle.tv_machine.specs.Run.{Session}
use Rattle.tv_model.specs.Description.Numbers.{natural}
use Rattle.tv_model.specs.declared.desc.Desc.{Desc}
use Rattle.tv_play.specs.Ends.{IsTakenFor, is_leaving}
use Rattle.tv_play.specs.Notes.{size_with}
use Rattle.tv_play.specs.Pieces.{symbols_in}
use Rattle.tv_play.specs.declared.ends.Step.TheVariants as steps
use Rattle.tv_play.specs.declared.pieces.Piece.{Piece}
use Rattle.tv_play.specs.declared.pieces.Piece.TheVariants as pieces
use Rattle.tv_play.specs.declared.parting.Parting.{Parting}
use Rattle.tv_play.specs.declared.parting.Parting.TheVariants as partings
use Rattle.tv_play.specs.declared.parting.PlayFault.{PlayFault}
use Rattle.tv_play.specs.declared.parting.PlayFault.TheVariants as faults
use Rattle.tv_terminal.specs.Decoding.{Listening, Symbol, Byte, Pause, before, decode_after, heard, left_after, left_by}
use Rattle.tv_terminal.specs.declared.action.Action.{Action}
use Rattle.tv_terminal.specs.declared.action.Size.{Size}
use Rattle.tv_terminal.specs.declared.colour.Colours.{Colours}
use Rattle.tv_terminal.specs.declared.painter.Painter.{Painter}
use Rattle.tv_terminal.proofs.DecodeLemmas.{decode_after-append, left_after-append}

-- ---- more causes than were seen to

leaves-wider : (d : Desc) (rest more : List Cause) → LeavesWith d rest → LeavesWith d (rest ++ more)
leaves-wider d [] more l = absurd l
leaves-wider d (Does action ∷ rest) more l = l
leaves-wider d (cause ∷ rest) more l = absurd l

ended-wider : {P : Type 0} (now : Moment P) (rest more : List Cause) (stopped : Bool) (outcome : Result Parting PlayFault) → IsEndedBy now rest stopped outcome → IsEndedBy now (rest ++ more) stopped outcome
ended-wider now rest more stopped (Ok partings.Over) is = is
ended-wider now rest more stopped (Ok partings.Left) is = (is.0, leaves-wider now.session.desc rest more is.1, is.2)
ended-wider now rest more stopped (Ok partings.Ended) is = is
ended-wider now rest more stopped (Err faults.NoMemory) is = is
ended-wider now rest more stopped (Err faults.Read) is = is
ended-wider now rest more stopped (Err faults.Log) is = is
ended-wider now rest more stopped (Err faults.Screen) is = is
ended-wider now rest more stopped (Err faults.Tape) is = is

-- ---- how it goes on after a moment

module _ {P : Type 0} {makes : Promise P} {colours : Colours} {program : P} {s : Session} {from : Seen} where
  pub lives-by : (causes : List Cause) (now : Moment P) (earlier : List (Moment P)) (scene : Scene P) → HasDone makes colours program s from causes now earlier now.session scene
      → (stopped : Bool) → scene.stopped ≡ stopped → (next : Next) → now.next ≡ next → (over : Bool) → now.session.state.is_over ≡ over → LivesOn makes colours program s from causes scene (outcome_of stopped next over)
  lives-by causes now earlier scene done true e next f over g = record { first = causes; rest = []; parts = sym (append-nil causes); now = now; earlier = earlier; done = done; ended = e }
  lives-by causes now earlier scene done false e Leave f over g = record { first = causes; rest = []; parts = sym (append-nil causes); now = now; earlier = earlier; done = done; ended = (inl f, e) }
  lives-by causes now earlier scene done false e Wait f true g = record { first = causes; rest = []; parts = sym (append-nil causes); now = now; earlier = earlier; done = done; ended = (inr g, e) }
  lives-by causes now earlier scene done false e Wait f false g = record { now = now; earlier = earlier; done = done; goes = record { waits = f; going = g }; going = e }

  lived-wider : (causes more : List Cause) (scene : Scene P) (outcome : Result Parting PlayFault) → HasLived makes colours program s from causes scene outcome → HasLived makes colours program s from (causes ++ more) scene outcome
  lived-wider causes more scene outcome l = record {
    first = l.first;
    rest = l.rest ++ more;
    parts = ap (λ x. x ++ more) l.parts ∙ append_assoc l.first l.rest more;
    now = l.now;
    earlier = l.earlier;
    done = l.done;
    ended = ended-wider l.now l.rest more scene.stopped outcome l.ended;
  }

module _ {P : Type 0} {makes : Promise P} where
  -- nothing was to be seen to
  pub sees-none : (scene : Scene P) → SeesTo makes scene scene [] None
  sees-none scene = λ colours program s from causes living. subst (λ x. IsLiving makes colours program s from x scene) (sym (append-nil causes)) living

  -- one thing after another
  pub sees-then : (a b c : Scene P) (first more : List Cause) (result : Option (Result Parting PlayFault)) → SeesTo makes a b first None → SeesTo makes b c more result → SeesTo makes a c (first ++ more) result
  sees-then a b c first more result one other = λ colours program s from causes living.
      subst (λ x. LivesOn makes colours program s from x c result) (append_assoc causes first more)
      (other colours program s from (causes ++ first) (one colours program s from causes living))

  -- the run is over, and the rest isn't seen to
  pub sees-out : (a b : Scene P) (first more : List Cause) (outcome : Result Parting PlayFault) → SeesTo makes a b first (Some outcome) → SeesTo makes a b (first ++ more) (Some outcome)
  sees-out a b first more outcome one = λ colours program s from causes living.
      subst (λ x. HasLived makes colours program s from x b outcome) (append_assoc causes first more)
      (lived-wider (causes ++ first) more b outcome (one colours program s from causes living))

  -- the same causes by another name
  pub sees-as : (a b : Scene P) (causes other : List Cause) (result : Option (Result Parting PlayFault)) → causes ≡ other → SeesTo makes a b causes result → SeesTo makes a b other result
  sees-as a b causes other result same sees = subst (λ x. SeesTo makes a b x result) same sees

  -- the user leaves
  pub sees-leave : (scene : Scene P) (action : Action) → ((u : Session) → Runs scene.app u → is_leaving u.desc action ≡ true) → SeesTo makes scene scene (Does action ∷ []) (Some (Ok partings.Left))
  sees-leave scene action leaves = λ colours program s from causes living. record {
    first = causes;
    rest = Does action ∷ [];
    parts = refl;
    now = living.now;
    earlier = living.earlier;
    done = living.done;
    ended = (living.goes, leaves living.now.session living.done.here, living.going);
  }

-- ---- pieces

pub pause-symbols : (piece : Piece) (room : List ℕ) → (piece ≡ pieces.Pause) ⊎ (piece ≡ pieces.End) → symbols_in piece room ≡ Pause ∷ []
pause-symbols piece room (inl is) = ap (λ (p : Piece). symbols_in p room) is
pause-symbols piece room (inr is) = ap (λ (p : Piece). symbols_in p room) is

-- ---- bytes

-- what one byte more means
pub byte-more : (l : Listening) (bytes : List ℕ) (i : ℕ) → i < length bytes → (action : Option Action) → action ≡ heard (left_after l (map Byte (take i bytes))) (get_or bytes i 0)
    → map Does (decode_after l (map Byte (take i bytes))) ++ map Does (before action []) ≡ map Does (decode_after l (map Byte (take (i + 1) bytes)))
byte-more l bytes i lt action is =
    let front : List Symbol = map Byte (take i bytes) in
    let byte : ℕ = get_or bytes i 0 in
    let all : map Byte (take (i + 1) bytes) ≡ front ++ Byte byte ∷ [] = ap (map Byte) (take_more bytes i 0 lt) ∙ map-append Byte (take i bytes) (byte ∷ []) in
    ap (λ (a : Option Action). map Does (decode_after l front) ++ map Does (before a [])) is
    ∙ sym (map-append Does (decode_after l front) (before (heard (left_after l front) byte) []))
    ∙ ap (map Does) (sym (decode_after-append l front (Byte byte ∷ [])))
    ∙ ap (λ x. map Does (decode_after l x)) (sym all)

pub left-more : (l k later : Listening) (bytes : List ℕ) (i : ℕ) → i < length bytes → k ≡ left_after l (map Byte (take i bytes)) → later ≡ left_by k (get_or bytes i 0) → later ≡ left_after l (map Byte (take (i + 1) bytes))
left-more l k later bytes i lt is by =
    let front : List Symbol = map Byte (take i bytes) in
    let byte : ℕ = get_or bytes i 0 in
    let all : map Byte (take (i + 1) bytes) ≡ front ++ Byte byte ∷ [] = ap (map Byte) (take_more bytes i 0 lt) ∙ map-append Byte (take i bytes) (byte ∷ []) in
    by ∙ ap (λ x. left_by x byte) is ∙ sym (left_after-append l front (Byte byte ∷ [])) ∙ ap (left_after l) (sym all)

-- the rest of the bytes, of which nothing is heard
pub bytes-rest : (l : Listening) (bytes : List ℕ) (i : ℕ) → map Does (decode_after l (map Byte bytes)) ≡ map Does (decode_after l (map Byte (take i bytes))) ++ map Does (decode_after (left_after l (map Byte (take i bytes))) (map Byte (drop i bytes)))
bytes-rest l bytes i =
    let front : List Symbol = map Byte (take i bytes) in
    let all : map Byte bytes ≡ front ++ map Byte (drop i bytes) = ap (map Byte) (sym (take-append-drop i bytes)) ∙ map-append Byte (take i bytes) (drop i bytes) in
    ap (λ x. map Does (decode_after l x)) all
    ∙ ap (map Does) (decode_after-append l front (map Byte (drop i bytes)))
    ∙ map-append Does (decode_after l front) (decode_after (left_after l front) (map Byte (drop i bytes)))

-- ---- a moment more

-- it goes on only where the writer of the screen hasn't failed
pub going-on : (stopped : Bool) (next : Next) (over : Bool) → outcome_of stopped next over ≡ None → stopped ≡ false
going-on true next over e = absurd cc
going-on false next over e = refl

-- the painter is one for the screen still
pub painted-size : {W : Type 0} {seen : W → Seen} {x z : Pen W} (d : Desc) (t : Session) (size : Option Size) (old new : Painter) → t.desc ≡ d → IsPainterOf d size old → PaintsSession seen t old new x z → IsPainterOf t.desc size new
painted-size d t size old new same is p = record {
  width = p.paints.changes.size.width ∙ is.width ∙ ap (λ (q : Desc). natural q.width) (sym same);
  height = p.paints.changes.size.height ∙ is.height ∙ ap (λ (q : Desc). natural q.height) (sym same);
  window = p.paints.window ∙ is.window ∙ ap (λ (q : Desc). window_in q size) (sym same);
}

pub begun-size : {W : Type 0} {seen : W → Seen} {x z : Pen W} (d : Desc) (t : Session) (was size : Option Size) (old new : Painter) → t.desc ≡ d → IsPainterOf d was old → BeginsSession seen t size old new x z → IsPainterOf t.desc size new
begun-size d t was size old new same is p = record {
  width = p.begins.size.width ∙ is.width ∙ ap (λ (q : Desc). natural q.width) (sym same);
  height = p.begins.size.height ∙ is.height ∙ ap (λ (q : Desc). natural q.height) (sym same);
  window = p.begins.window;
}

module _ {P W : Type 0} (makes : Promise P) (seen : W → Seen) (old new : Host P W) where
  -- the program was asked, and what it left is shown
  pub asks : (news : News) (next : Next) (over : Bool) (result : Option (Result Parting PlayFault))
      → ((u : Session) → Runs old.app.now u → Goes (λ a b. makes news old.program.now a next new.program.now b) u new.app.now)
      → ((t : Session) → Runs new.app.now t → PaintsSession seen t old.painter.now new.painter.now old.pen new.pen)
      → ((t : Session) → Runs new.app.now t → over ≡ t.state.is_over) → new.size ≡ old.size → result ≡ outcome_of new.pen.stopped next over → Asks makes (scene_of seen old) (scene_of seen new) news result
  asks news next over result makes_it paints is_over sized is = λ colours program s from causes earlier-moment earlier at cause done goes same calm still asked.
      let to = makes_it at done.here in
      let t : Session = to.session in
      let p = paints t to.runs in
      let desc : t.desc ≡ s.desc = to.desc ∙ same ∙ desc-of makes program s earlier-moment earlier done.course in
      let now : Moment P = record { cause = cause; next = next; program = new.program.now; session = t; size = earlier-moment.size; bytes = p.paints.bytes } in
      subst (LivesOn makes colours program s from (causes ++ cause ∷ []) (scene_of seen new)) (sym is)
      (lives-by (causes ++ cause ∷ []) now (earlier-moment ∷ earlier) (scene_of seen new)
      (record {
        course = (
          record {
            goes = goes;
            comes = asked now (record { made = subst (λ q. makes news q at next new.program.now t) done.left to.made; desc = to.desc });
            size = sym still;
          },
          done.course,
        );
        all = ap (λ x. x ++ cause ∷ []) done.all;
        here = to.runs;
        left = refl;
        size = sized ∙ done.size;
        painter = record {
          width = p.paints.changes.size.width ∙ done.painter.width;
          height = p.paints.changes.size.height ∙ done.painter.height;
          window = p.paints.window ∙ done.painter.window ∙ ap (window_in s.desc) (sym sized);
        };
        shown = shown-painted colours s.desc cause next new.program.now t desc earlier-moment.size (earlier-moment ∷ earlier) from done.shown.same done.painter.width done.painter.height
            (done.painter.window ∙ ap (window_in s.desc) done.size) p calm done.shown;
      })
      new.pen.stopped refl next refl over (sym (is_over t to.runs)))

  -- the screen was shown anew
  pub sees-refresh : (action : Action) (result : Option (Result Parting PlayFault)) → new.app.now ≡ old.app.now → new.program.now ≡ old.program.now
      → ((u : Session) → Runs old.app.now u → IsTakenFor u.desc action steps.Refresh)
      → ((t : Session) → Runs old.app.now t → BeginsSession seen t new.size old.painter.now new.painter.now old.pen new.pen)
      → new.size ≡ size_with old.size action → result ≡ outcome_of new.pen.stopped Wait false → SeesTo makes (scene_of seen old) (scene_of seen new) (Does action ∷ []) result
  sees-refresh action result app kept taken begins sized is = λ colours program s from causes living.
      let done = living.done in
      let was = living.now in
      let t : Session = was.session in
      let size : new.size ≡ size_with was.size action = sized ∙ ap (λ o. size_with o action) done.size in
      let p = subst (λ o. BeginsSession seen t o old.painter.now new.painter.now old.pen new.pen) size (begins t done.here) in
      let desc : t.desc ≡ s.desc = desc-of makes program s was living.earlier done.course in
      let now : Moment P = record { cause = Does action; next = Wait; program = was.program; session = t; size = size_with was.size action; bytes = p.begins.bytes } in
      subst (LivesOn makes colours program s from (causes ++ Does action ∷ []) (scene_of seen new)) (sym is)
      (lives-by (causes ++ Does action ∷ []) now (was ∷ living.earlier) (scene_of seen new)
      (record {
        course = (record { goes = living.goes; comes = (steps.Refresh, taken t done.here, record { next = refl; program = refl; session = refl }); size = refl }, done.course);
        all = ap (λ x. x ++ Does action ∷ []) done.all;
        here = subst (λ (a : App). Runs a t) (sym app) done.here;
        left = kept ∙ done.left;
        size = size;
        painter = record {
          width = p.begins.size.width ∙ done.painter.width;
          height = p.begins.size.height ∙ done.painter.height;
          window = p.begins.window ∙ ap (λ (q : Desc). window_in q (size_with was.size action)) desc ∙ ap (window_in s.desc) (sym size);
        };
        shown = shown-begun colours s.desc (Does action) Wait was.program t desc (size_with was.size action) (was ∷ living.earlier) from done.shown.same done.painter.width done.painter.height p done.shown;
      })
      new.pen.stopped refl Wait refl false living.goes.going)

  -- the run began
  pub begins-so : (next : Next) (over : Bool) (result : Option (Result Parting PlayFault)) → old.pen.stopped ≡ false → old.size ≡ None → new.size ≡ old.size
      → ((u : Session) → Runs old.app.now u → IsPainterOf u.desc None old.painter.now)
      → ((u : Session) → Runs old.app.now u → Goes (λ a b. makes Begin old.program.now a next new.program.now b) u new.app.now)
      → ((t : Session) → Runs new.app.now t → BeginsSession seen t old.size old.painter.now new.painter.now old.pen new.pen)
      → ((t : Session) → Runs new.app.now t → over ≡ t.state.is_over) → result ≡ outcome_of new.pen.stopped next over
      → (s : Session) → Runs old.app.now s → LivesOn makes old.painter.now.colours old.program.now s (seen old.pen.out.now) (Begins ∷ []) (scene_of seen new) result
  begins-so next over result going untold sized framed makes_it begins is_over is s runs =
      let to = makes_it s runs in
      let t : Session = to.session in
      let p = subst (λ o. BeginsSession seen t o old.painter.now new.painter.now old.pen new.pen) untold (begins t to.runs) in
      let frame = framed s runs in
      let now : Moment P = record { cause = Begins; next = next; program = new.program.now; session = t; size = None; bytes = p.begins.bytes } in
      let nothing = shown-none {P = P} old.painter.now.colours s.desc (seen old.pen.out.now) old.painter.now refl in
      subst (LivesOn makes old.painter.now.colours old.program.now s (seen old.pen.out.now) (Begins ∷ []) (scene_of seen new)) (sym is)
      (lives-by (Begins ∷ []) now [] (scene_of seen new)
      (record {
        course = record { cause = refl; asked = record { made = to.made; desc = to.desc }; size = refl };
        all = refl;
        here = to.runs;
        left = refl;
        size = sized ∙ untold;
        painter = record {
          width = p.begins.size.width ∙ frame.width;
          height = p.begins.size.height ∙ frame.height;
          window = p.begins.window ∙ ap (λ (q : Desc). window_in q None) to.desc ∙ ap (window_in s.desc) (sym (sized ∙ untold));
        };
        shown = shown-begun old.painter.now.colours s.desc Begins next new.program.now t to.desc None [] (seen old.pen.out.now) refl frame.width frame.height p
            (subst (λ b. HasBeenShown {P = P} old.painter.now.colours s.desc [] (seen old.pen.out.now) (seen old.pen.out.now) b old.painter.now) (sym going) nothing);
      })
      new.pen.stopped refl next refl over (sym (is_over t to.runs)))
