-- Runs of any system: lists of events each of which may happen in its turn.
use Rattle.std.specs.Prelude.{◌≡◌, List, [], ◌∷◌, option_and_then, Some, None}
use Rattle.std.specs.declared.option.Option.{Option}

-- the state after these events, where each of them may happen in its turn
abbrev pub run : {S E : Type 0} → (E → S → Option S) → List E → S → Option S
run step [] s = Some s
run step (e ∷ es) s = option_and_then (run step es) (step e s)

-- a fact that each event keeps
abbrev pub IsKept : {S E : Type 0} → (E → S → Option S) → (S → Type 0) → Type 0
IsKept {S} {E} step holds = (e : E) (s next : S) → step e s ≡ Some next → holds s → holds next

-- an event in front of others, where there is one
abbrev pub in_front : {F : Type 0} → Option F → List F → List F
in_front None fs = fs
in_front (Some f) fs = f ∷ fs

abbrev pub behind : {S F : Type 0} → (S → List F) → Option S → List F
behind rest None = []
behind rest (Some s) = rest s

-- The events of another system that match those of a run. Each is matched by one or by none, by the state in which it happens.
abbrev pub matched : {S E F : Type 0} → (E → S → Option S) → (E → S → Option F) → List E → S → List F
matched step match_of [] s = []
matched step match_of (e ∷ es) s = in_front (match_of e s) (behind (matched step match_of es) (step e s))

-- a state goes along with what matches an event: by that event, or not at all
abbrev pub Follows : {T F : Type 0} → (F → T → Option T) → (T → Type 0) → T → Option F → Type 0
Follows other related t None = related t
Follows {T} other related t (Some f) = (after : T) × (other f t ≡ Some after) × related after

-- each event of one system is followed by another one from all states that are related to its own
abbrev pub IsSimulation : {S E T F : Type 0} → (E → S → Option S) → (F → T → Option T) → (E → S → Option F) → (S → T → Type 0) → Type 0
IsSimulation {S} {E} {T} step other match_of related =
    (e : E) (s next : S) (t : T) → step e s ≡ Some next → related s t → Follows other (related next) t (match_of e s)

-- these events lead from a state to one of which this holds
abbrev pub Arrives : {T F : Type 0} → (F → T → Option T) → (T → Type 0) → List F → T → Type 0
Arrives {T} other holds fs t = (after : T) × (run other fs t ≡ Some after) × holds after
