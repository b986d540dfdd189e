-- How a session may end, by what was served.
use Rattle.std.proofs.Common.{◌≡◌, ℕ, suc, List, [], ◌++◌, Bool, true, Option, Some, None, Result, Ok, Err, refl, sym, ap, ◌∙◌, inl, inr, append-nil, subst, string_bytes}
use Rattle.std.specs.Prelude.{IfSome, take}
use Rattle.std.specs.Io.KnownBytes.{Appends}
use Rattle.dnr_base.specs.Faults.{Rose}
use Rattle.dnr_spec.specs.declared.status.Status.{Status}
use Rattle.dnr_spec.specs.declared.status.Status.TheVariants as status
use Rattle.dnr_spec.specs.Lines.{lines_of, is_within_limits}
use Rattle.generation.specs.Basis.{Basis}
use Rattle.load_spec.specs.Files.{Files}
use Rattle.rule_spec.specs.State.{State}
use Rattle.session_spec.specs.Answers.{Setting, HostRisesBy}
use Rattle.session_spec.specs.Answers as spec
use Rattle.session_spec.specs.Loading.{Loaded}
use Rattle.session_spec.specs.Out.{Outside, Session, LoadsFor, takes_updates, follows_requests, workers_of, setting_of, HoldsScript, HoldsTooMuch, HoldsGiven, IsServed, HasStarted, ServesAll, ServesSome, Conduct, in_rounds, IsBeginning, EndsBy}
use Rattle.session_spec.specs.Rounds.{rounds_of, whole_rounds_of, short_lines, ended_lines}
use Rattle.session_serve.specs.Serving.{some_rounds, WritesGiven, EndsServing}
use Rattle.session_serve.specs.declared.stop.ServeStop.{ServeStop}
use Rattle.session_serve.specs.declared.stop.ServeStop.TheVariants as serve
use Rattle.text_commands.specs.Ends.{IsRun}
use Rattle.dnr_top.specs.Run.{IsOpened, SaysNoLess, status_of}

-- ---- a session

more_hosts : (whole part : Outside) (setting : Setting) (first : State) (rounds : List (List (List ℕ))) (written : List ℕ) → SaysNoLess whole part
    → spec.Serves part.hosts setting first rounds written → spec.Serves whole.hosts setting first rounds written
more_hosts whole part setting first rounds written less serves = record {
  said = serves.said;
  last = serves.last;
  says = serves.says;
  order = serves.order;
  text = serves.text;
  finders = λ seat. less.hosts (suc seat) _ (serves.finders seat);
  checker = less.hosts 0 _ serves.checker;
}

setting_is : (session : Session) (loaded : Loaded) (basis : Basis) (updates follows : Bool) (workers : ℕ) → takes_updates session ≡ updates → follows_requests session ≡ follows → workers_of session ≡ workers
    → basis.suffixes ≡ loaded.suffixes → record { suffixes = basis.suffixes; workers = workers; updates = updates; follows = follows } ≡ setting_of session loaded.suffixes
setting_is session loaded basis updates follows workers takes leads works suffixes =
    ap (λ s. record { suffixes = s; workers = workers; updates = updates; follows = follows }) suffixes
    ∙ ap (λ (n : ℕ). record { suffixes = loaded.suffixes; workers = n; updates = updates; follows = follows }) (sym works)
    ∙ ap (λ (u : Bool). record { suffixes = loaded.suffixes; workers = workers_of session; updates = u; follows = follows }) (sym takes)
    ∙ ap (λ (f : Bool). record { suffixes = loaded.suffixes; workers = workers_of session; updates = takes_updates session; follows = f }) (sym leads)

-- all that is known of a session that was opened
pub record IsSession (files : Files) (session : Session) (whole part : Outside) (loaded : Loaded) (basis : Basis) (updates follows : Bool) (workers : ℕ) : Type 0 where
  pub read : LoadsFor files session loaded
  pub opened : IsOpened loaded basis
  pub takes : takes_updates session ≡ updates
  pub leads : follows_requests session ≡ follows
  pub works : workers_of session ≡ workers
  pub less : SaysNoLess whole part

served : (files : Files) (session : Session) (whole part : Outside) (loaded : Loaded) (basis : Basis) (updates follows : Bool) (workers : ℕ) (Script : List ℕ → Type 0) (rounds_in : List ℕ → List (List (List ℕ))) (script written : List ℕ)
    → IsSession files session whole part loaded basis updates follows workers → Script script
    → spec.Serves part.hosts (record { suffixes = basis.suffixes; workers = workers; updates = updates; follows = follows }) basis.state (rounds_in script) written
    → IsServed files whole session Script rounds_in written
served files session whole part loaded basis updates follows workers Script rounds_in script written is holds serves = record {
  loaded = loaded;
  first = basis.state;
  opens = record { read = is.read; installed = is.opened.installed };
  script = script;
  holds = holds;
  serves = more_hosts whole part (setting_of session loaded.suffixes) basis.state (rounds_in script) written is.less
      (subst (λ (s : Setting). spec.Serves part.hosts s basis.state (rounds_in script) written) (setting_is session loaded basis updates follows workers is.takes is.leads is.works is.opened.suffixes) serves);
}

unread_ends : (files : Files) (session : Session) (whole part : Outside) (loaded : Loaded) (basis : Basis) (updates follows : Bool) (workers : ℕ) (name script : List ℕ) (before now : Option (List ℕ)) (left : Option (List ℕ))
    → IsSession files session whole part loaded basis updates follows workers → files name ≡ Some script → left ≡ Some whole.left → HasStarted whole
    → IfSome left (λ rest. WritesGiven before now part.hosts (record { suffixes = basis.suffixes; workers = workers; updates = updates; follows = follows }) basis.state script rest)
    → IsRun before now ((in_rounds files whole session name).Unread)
unread_ends files session whole part loaded basis updates follows workers name script before now None is held known started ends = absurd (cc known)
unread_ends files session whole part loaded basis updates follows workers name script before now (Some left) is held known started gave =
    let same : left ≡ whole.left = cc known in (
      gave.writes.written,
      gave.writes.taken,
      inr (
        started,
        served files session whole part loaded basis updates follows workers (λ given. HoldsGiven files name given whole.left) (λ given. whole_rounds_of (ended_lines given)) gave.given gave.writes.written is
            (record { script = script; held = held; split = subst (λ (l : List ℕ). script ≡ gave.given ++ l) same gave.split }) gave.writes.serves,
      ),
    )

some_served : (files : Files) (session : Session) (whole part : Outside) (loaded : Loaded) (basis : Basis) (updates follows : Bool) (workers : ℕ) (name script : List ℕ) (written : List ℕ) (count : ℕ)
    → IsSession files session whole part loaded basis updates follows workers → files name ≡ Some script
    → spec.Serves part.hosts (record { suffixes = basis.suffixes; workers = workers; updates = updates; follows = follows }) basis.state (some_rounds count script) written → ServesSome files whole session name written
some_served files session whole part loaded basis updates follows workers name script written count is held serves = record {
  count = count;
  served = served files session whole part loaded basis updates follows workers (λ s. files name ≡ Some s) (λ s. take count (whole_rounds_of (short_lines s))) script written is held serves;
}

all_served : (files : Files) (session : Session) (whole part : Outside) (loaded : Loaded) (basis : Basis) (updates follows : Bool) (workers : ℕ) (name script : List ℕ) (written : List ℕ)
    → IsSession files session whole part loaded basis updates follows workers → files name ≡ Some script → is_within_limits script ≡ true
    → spec.Serves part.hosts (record { suffixes = basis.suffixes; workers = workers; updates = updates; follows = follows }) basis.state (rounds_of (lines_of script)) written → ServesAll files whole session name written
all_served files session whole part loaded basis updates follows workers name script written is held within serves =
    served files session whole part loaded basis updates follows workers (HoldsScript files name) (λ s. rounds_of (lines_of s)) script written is (record { held = held; within = within }) serves

-- the script was served, and the run ends so
pub served_ends : (files : Files) (session : Session) (whole part : Outside) (loaded : Loaded) (basis : Basis) (updates follows : Bool) (workers : ℕ) (name script : List ℕ) (before now : Option (List ℕ)) (left : Option (List ℕ)) (result : Result (Unit {0}) ServeStop)
    → IsSession files session whole part loaded basis updates follows workers → files name ≡ Some script → left ≡ Some whole.left
    → HasStarted whole → (result ≡ Err serve.ReadFault → Rose whole.shelf.before whole.shelf.now) → (result ≡ Err serve.WriteFault → Rose whole.sink.before whole.sink.now)
    → EndsServing before now part.hosts (record { suffixes = basis.suffixes; workers = workers; updates = updates; follows = follows }) basis.state script left result
    → IsRun before now (EndsBy whole (in_rounds files whole session name) (status_of result))
served_ends files session whole part loaded basis updates follows workers name script before now left (Ok done) is held known started fault wrote (within, writes) =
    (writes.written, writes.taken, all_served files session whole part loaded basis updates follows workers name script writes.written is held within writes.serves)
served_ends files session whole part loaded basis updates follows workers name script before now left (Err serve.ReadFault) is held known started fault wrote ends =
    let run = unread_ends files session whole part loaded basis updates follows workers name script before now left is held known started ends in
    (run.0, run.1, (fault refl, run.2))
served_ends files session whole part loaded basis updates follows workers name script before now left (Err serve.WriteFault) is held known started fault wrote (inl (count, part_written)) =
    (part_written.sent, part_written.taken, (wrote refl, record { rest = part_written.rest; whole = inr (inl (some_served files session whole part loaded basis updates follows workers name script (part_written.sent ++ part_written.rest) count is held part_written.serves)) }))
served_ends files session whole part loaded basis updates follows workers name script before now left (Err serve.WriteFault) is held known started fault wrote (inr (within, part_written)) =
    (part_written.sent, part_written.taken, (wrote refl, record { rest = part_written.rest; whole = inl (all_served files session whole part loaded basis updates follows workers name script (part_written.sent ++ part_written.rest) is held within part_written.serves) }))
served_ends files session whole part loaded basis updates follows workers name script before now left (Err serve.TooLong) is held known started fault wrote (beyond, writes) =
    (writes.written, writes.taken, inr (served files session whole part loaded basis updates follows workers (HoldsTooMuch files name) (λ s. whole_rounds_of (short_lines s)) script writes.written is (record { held = held; beyond = beyond }) writes.serves))
served_ends files session whole part loaded basis updates follows workers name script before now left (Err serve.NoMemory) is held known started fault wrote (count, writes) = (
  writes.written,
  writes.taken,
  inr (record {
    rest = [];
    whole = inr (inl (some_served files session whole part loaded basis updates follows workers name script (writes.written ++ []) count is held
        (subst (λ (t : List ℕ). spec.Serves part.hosts (record { suffixes = basis.suffixes; workers = workers; updates = updates; follows = follows }) basis.state (some_rounds count script) t) (sym (append-nil writes.written)) writes.serves)));
  }),
)
