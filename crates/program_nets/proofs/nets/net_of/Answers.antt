use Rattle.std.proofs.Common.{◌≡◌, ℕ, List, sym, subst, ◌∙◌}
use Rattle.c_tree.specs.Lined.{program_of}
use Rattle.c_tree.specs.Numbering.{mutex_count}
use Rattle.c_meaning.specs.Shown.{shown}
use Rattle.context_walk.proofs.Fitting.{mutexes_few}
use Rattle.gadara_net.specs.Flows as net
use Rattle.program_nets.proofs.nets.net_of.Goals as goal

pub tokens_in-requires : goal.tokens_in-requires
tokens_in-requires c = mutexes_few c.args.p.now c.requires.formed

pub mutex_count-requires : goal.mutex_count-requires
mutex_count-requires c = mutexes_few c.args.p.now c.requires.formed

pub net-requires : goal.net-requires
net-requires c =
    let mutexes : c.from.result ≡ mutex_count (shown c.args.p.now) = c.from.ensures ∙ c.mutex_count.ensures in
    subst (λ (m : ℕ). net.IsFlow (record { threads = c.args.flow.threads; mutexes = m; tokens = c.in_ok-tokens.tokens; points = c.args.flow.points; edges = c.args.flow.edges })) (sym mutexes)
    (subst (λ (ts : List ℕ). net.IsFlow (record { threads = c.args.flow.threads; mutexes = mutex_count (shown c.args.p.now); tokens = ts; points = c.args.flow.points; edges = c.args.flow.edges })) (sym c.in_ok-tokens.ensures)
    (c.flows_meet_the_nets_condition.ensures.makes (program_of c.args.p.now) c.requires.formed.0 c.args.flow c.requires.formed.1 c.requires.shaped c.requires.flow))
