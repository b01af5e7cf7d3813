-- What holds of each statement holds of those inside each.
use Rattle.c_tree.specs.Bare as bare
use Rattle.c_tree.specs.Bare.{Stmt, Stmts, Nil, Cons}
use Rattle.c_tree.specs.Everywhere.{Everywhere, EverywhereInside}
use Rattle.state_parts.specs.First.{OfEach}

mutual
  pub deeper : (P : Stmt → Type 0) (ss : Stmts) → Everywhere P ss → Everywhere (OfEach P) ss
  deeper P Nil every = tt
  deeper P (Cons s rest) every = ((every.0, every.1), deeper_inside P s every.1, deeper P rest every.2)

  pub deeper_inside : (P : Stmt → Type 0) (s : Stmt) → EverywhereInside P s → EverywhereInside (OfEach P) s
  deeper_inside P (bare.If test then_arm else_arm) every = (deeper P then_arm every.0, deeper P else_arm every.1)
  deeper_inside P (bare.While test body) every = deeper P body every
  deeper_inside P (bare.For first_part test step body) every = (deeper P first_part every.0, deeper P step every.1, deeper P body every.2)
  deeper_inside P (bare.TryLock place taken busy) every = (deeper P taken every.0, deeper P busy every.1)
  deeper_inside P (bare.Declare name e) every = tt
  deeper_inside P (bare.Assign target e) every = tt
  deeper_inside P (bare.Call target function args) every = tt
  deeper_inside P (bare.Return e) every = tt
  deeper_inside P (bare.Read target) every = tt
  deeper_inside P (bare.Print format args) every = tt
  deeper_inside P (bare.Create slot function arg) every = tt
  deeper_inside P (bare.Join slot) every = tt
  deeper_inside P (bare.InitMutex place) every = tt
  deeper_inside P (bare.InitCond place) every = tt
  deeper_inside P (bare.Lock place) every = tt
  deeper_inside P (bare.Unlock place) every = tt
  deeper_inside P (bare.Wait cond mutex takes) every = tt
  deeper_inside P (bare.Signal cond) every = tt
  deeper_inside P (bare.Broadcast cond) every = tt
  deeper_inside P (bare.Take monitor) every = tt
  deeper_inside P (bare.Give monitor) every = tt
