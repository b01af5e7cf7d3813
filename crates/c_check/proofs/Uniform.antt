-- What a statement breaks, rule by rule.
use Rattle.std.proofs.Common.{◌≡◌, ◌&&◌, List, [], ◌++◌, refl, sym, ap, ◌∙◌, append-nil}
use Rattle.std.specs.Prelude.{flat_map}
use Rattle.c_tree.specs.declared.program.Mode.{Mode}
use Rattle.c_tree.specs.Lined.{Stmt, Declare, Call, For, Print, Create, Join, InitMutex, InitCond, Wait, Take, Give, Program, line_of}
use Rattle.c_rules.specs.declared.rule.Rule.TheVariants.{Reserved, Twice, WrongCount, Recursion, CreateNotFixed, JoinNotFixed, ArgNotConstant, InitLate, IndexRange}
use Rattle.c_rules.specs.Names.{mentions, is_reserved}
use Rattle.c_rules.specs.Declarations.{declaration_of}
use Rattle.c_rules.specs.Sites.{Site, locals_of}
use Rattle.c_rules.specs.Uses.{uses_of}
use Rattle.c_rules.specs.Meaning.{visible}
use Rattle.c_rules.specs.Naming.{Inner, local_in, calls_monitor}
use Rattle.c_rules.specs.Using.{is_miscounted, calls}
use Rattle.c_rules.specs.Threads.{is_unfixed_create, is_unfixed_join, has_open_argument}
use Rattle.c_rules.specs.Objects.{is_init, is_beyond}
use Rattle.c_acts.specs.declared.first.Break.{Break}
use Rattle.c_acts.specs.First.{break_if}
use Rattle.c_acts.specs.Uses.{uses_breaks}
use Rattle.c_acts.specs.Acts.{outer_clash, is_source}
use Rattle.c_check.proofs.Nodes.{scope_more}
use Rattle.c_check.proofs.Sited.{around_at, late_at, site_breaks}

-- what a parameter or a local breaks
abbrev pub inner_breaks : Program → Mode → Inner → List Break
inner_breaks p mode l = break_if (is_reserved l.name) Reserved l.line ++ break_if (mentions l.scope l.name) Twice l.line ++ outer_clash (declaration_of p l.name) l.line

-- what the rules on acts say
abbrev pub act_rules : Program → Mode → Site → List Break
act_rules p mode site =
    break_if (is_miscounted p site site.stmt) WrongCount (line_of site.stmt)
    ++ (break_if (calls site.function.name site.stmt) Recursion (line_of site.stmt)
    ++ (break_if (is_unfixed_create p site site.stmt) CreateNotFixed (line_of site.stmt)
    ++ (break_if (is_unfixed_join p site site.stmt) JoinNotFixed (line_of site.stmt)
    ++ (break_if (has_open_argument site.stmt) ArgNotConstant (line_of site.stmt)
    ++ (break_if (is_init site.stmt && late_at site) InitLate (line_of site.stmt)
    ++ (break_if (calls_monitor site.stmt && is_source mode) Reserved (line_of site.stmt)
    ++ break_if (is_beyond p site.stmt) IndexRange (line_of site.stmt)))))))

abbrev pub use_rules : Program → Mode → Site → List Break
use_rules p mode site = uses_breaks (around_at p mode (site.place, site.function)) (mentions (visible site)) (line_of site.stmt) (uses_of site.stmt)

abbrev pub by_rules : Program → Mode → Site → List Break
by_rules p mode site = flat_map (inner_breaks p mode) (local_in site.scope site.stmt) ++ (use_rules p mode site ++ act_rules p mode site)

nil_both : (xs ys : List Break) → xs ++ ys ≡ (xs ++ []) ++ (ys ++ [])
nil_both xs ys = sym (ap (λ z. z ++ (ys ++ [])) (append-nil xs) ∙ ap (λ z. xs ++ z) (append-nil ys))

with_nil : (xs : List Break) → xs ≡ xs ++ []
with_nil xs = sym (append-nil xs)

last_nil : (xs ys : List Break) → xs ++ ys ≡ xs ++ (ys ++ [])
last_nil xs ys = ap (λ z. xs ++ z) (with_nil ys)

two_last : (xs ys zs : List Break) → xs ++ (ys ++ zs) ≡ xs ++ (ys ++ (zs ++ []))
two_last xs ys zs = ap (λ z. xs ++ (ys ++ z)) (with_nil zs)

abbrev pub at : Site → Stmt → Site
at site s = record site { stmt = s }

pub ruled : (p : Program) (mode : Mode) (site : Site) (s : Stmt) → site_breaks p mode (at site s) ≡ by_rules p mode (at site s)
ruled p mode site (Declare line name value) =
    nil_both (inner_breaks p mode (record { name = name; line = line; scope = site.scope })) (use_rules p mode (at site (Declare line name value)))
ruled p mode site (Call line target function args) =
    let site' = at site (Call line target function args) in
    two_last (use_rules p mode site') (break_if (is_miscounted p site' site'.stmt) WrongCount line) (break_if (calls site.function.name site'.stmt) Recursion line)
ruled p mode site (For line part test step body) =
    ap (λ n. uses_breaks (around_at p mode (site.place, site.function)) n line (uses_of (For line part test step body))) (scope_more (locals_of part) site.scope)
    ∙ with_nil (use_rules p mode (at site (For line part test step body)))
ruled p mode site (Print line format args) =
    let site' = at site (Print line format args) in
    last_nil (use_rules p mode site') (break_if (is_miscounted p site' site'.stmt) WrongCount line)
ruled p mode site (Create line slot function arg) =
    let site' = at site (Create line slot function arg) in
    two_last (use_rules p mode site') (break_if (is_unfixed_create p site' site'.stmt) CreateNotFixed line) (break_if (has_open_argument site'.stmt) ArgNotConstant line)
ruled p mode site (Join line slot) =
    let site' = at site (Join line slot) in
    last_nil (use_rules p mode site') (break_if (is_unfixed_join p site' site'.stmt) JoinNotFixed line)
ruled p mode site (InitMutex line place) = last_nil (use_rules p mode (at site (InitMutex line place))) (break_if (late_at site) InitLate line)
ruled p mode site (InitCond line place) = last_nil (use_rules p mode (at site (InitCond line place))) (break_if (late_at site) InitLate line)
ruled p mode site (Wait line cond mutex takes) = refl
ruled p mode site (Take line monitor) = refl
ruled p mode site (Give line monitor) = refl
ruled p mode site s = with_nil (use_rules p mode (at site s))
