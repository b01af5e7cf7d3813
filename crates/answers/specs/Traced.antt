-- A trace as a text.
use Rattle.std.specs.Prelude.{ℕ, suc, zero, Bool, true, false, ◌==◌, List, [], ◌∷◌, ◌++◌, codes, decimal, if◌then◌else◌}
use Rattle.c_meaning.specs.Closed.{has}
use Rattle.schedule_runner.specs.declared.runs.Trace.{Trace}
use Rattle.schedule_runner.specs.declared.runs.TraceEnd.{TraceEnd}
use Rattle.schedule_runner.specs.declared.runs.TraceEnd.TheVariants.{All, NotEnabled, Undefined}

-- lines, each with its line break
abbrev pub lined : List (List ℕ) → List ℕ
lined [] = []
lined (line ∷ lines) = line ++ (10 ∷ lined lines)

-- the number of the event that wasn't done, and why
abbrev pub end_text : TraceEnd → List ℕ
end_text All = []
end_text (NotEnabled number) = codes "event " ++ (decimal number ++ codes " not enabled\n")
end_text (Undefined number) = codes "event " ++ (decimal number ++ codes " undefined\n")

abbrev pub state_text : Bool → List ℕ
state_text true = codes "state ended\n"
state_text false = codes "state running\n"

-- a thread that is in a set, with a blank before it
abbrev pub thread_text : ℕ → ℕ → List ℕ
thread_text set t = if has set t then codes " " ++ decimal t else []

-- those of the first so many threads, in their order
abbrev pub threads_text : ℕ → ℕ → List ℕ
threads_text set zero = []
threads_text set (suc t) = threads_text set t ++ thread_text set t

abbrev pub stuck_text : ℕ → List ℕ
stuck_text set = if set == 0 then codes "stuck none\n" else codes "stuck" ++ (threads_text set 32 ++ codes "\n")

abbrev pub trace_text : Trace → List ℕ
trace_text t = lined t.acts ++ (end_text t.end ++ (state_text t.ended ++ stuck_text t.stuck))
