-- What a session does.
use Rattle.std.specs.Prelude.{◌≡◌, ℕ, List, slice_get, Bool, Option, Result, Ok, Err, IfSome}
use Rattle.dnr_base.specs.Faults.{Rose, Count}
use Rattle.dnr_spec.specs.declared.status.Status.{Status}
use Rattle.dnr_spec.specs.declared.status.Status.TheVariants as status
use Rattle.generation.specs.Basis.{Basis}
use Rattle.load_spec.specs.Files.{Files}
use Rattle.update_spec.specs.Entries.{RefusedInstall, opening}
use Rattle.session_serve.specs.declared.stop.ServeStop.{ServeStop}
use Rattle.session_serve.specs.declared.stop.ServeStop.TheVariants as serve
use Rattle.session_spec.specs.Answers.{HostRisesBy}
use Rattle.session_spec.specs.Loading.{Loaded}
use Rattle.session_spec.specs.Out.{Outside, Session, LoadsFor, takes_updates, follows_requests, workers_of, in_rounds, EndsBy}
use Rattle.session_spec.specs.Refusals.{install_line}
use Rattle.text_commands.specs.Ends.{IsRun}

-- what was loaded is in force
pub record IsOpened (loaded : Loaded) (basis : Basis) : Type 0 where
  pub suffixes : basis.suffixes ≡ loaded.suffixes
  pub installed : opening loaded.extensions ≡ Ok basis.state

-- an extension is not installed, and this line says so
pub record PrintsInstall (loaded : Loaded) (line : List ℕ) : Type 0 where
  pub refused : RefusedInstall
  pub judged : opening loaded.extensions ≡ Err refused
  pub same : line ≡ install_line refused

-- the status that the serving of a script ends with
abbrev pub status_of : Result (Unit {0}) ServeStop → Status
status_of (Ok done) = status.Done
status_of (Err serve.ReadFault) = status.ReadFault
status_of (Err serve.WriteFault) = status.WriteFault
status_of (Err serve.TooLong) = status.FileTooLong
status_of (Err serve.NoMemory) = status.NoMemory

-- What came from outside in a whole run says no less than what was seen of its last part: of the shelf, of what it
-- started, of the sink, of each host, and of what is left.
pub record SaysNoLess (whole part : Outside) : Type 0 where
  pub shelf_rose : Rose part.shelf.before part.shelf.now → Rose whole.shelf.before whole.shelf.now
  pub same_started : whole.started ≡ part.started
  pub same_sink : whole.sink ≡ part.sink
  pub hosts : (place times : ℕ) → HostRisesBy times (slice_get part.hosts place) → HostRisesBy times (slice_get whole.hosts place)
  pub same_left : whole.left ≡ part.left

-- whichever session this was loaded for, its run may end so
abbrev pub Serves : Files → Loaded → Bool → Bool → ℕ → List ℕ → Option (List ℕ) → Option (List ℕ) → Outside → Status → Type 0
Serves files loaded updates follows workers script before now part ended =
    (session : Session) (whole : Outside) → LoadsFor files session loaded
    → takes_updates session ≡ updates → follows_requests session ≡ follows → workers_of session ≡ workers → SaysNoLess whole part
    → IsRun before now (EndsBy whole (in_rounds files whole session script) ended)

-- where the shelf tells what its files hold, the session may end so
abbrev pub MayServe : Option Files → Loaded → Bool → Bool → ℕ → List ℕ → Option (List ℕ) → Option (List ℕ) → Outside → Status → Type 0
MayServe known loaded updates follows workers script before now part ended =
    IfSome known (λ files. Serves files loaded updates follows workers script before now part ended)
