use Rattle.std.proofs.Common.{◌≡◌, ◌+◌, ◌++◌, ◌∷◌, [], map, replicate, length, sym, ap, ◌∙◌, arith}
use Rattle.std.specs.Prelude.{option_map, reverse}
use Rattle.c_tree.specs.Numbering.{creations}
use Rattle.c_meaning.specs.Shown.{shown}
use Rattle.c_meaning.specs.State as run
use Rattle.state_parts.specs.Threads.{frame_in, status_of}
use Rattle.state_parts.specs.declared.threads.Doing.TheVariants.{Running}
use Rattle.state_parts.specs.declared.threads.Thread.{Thread}
use Rattle.state_parts.proofs.Starts.{main_frame, main_is_made}
use Rattle.state_parts.proofs.starting.first_threads.Goals as goal

pub returns-clause-are : goal.returns-clause-are
returns-clause-are c =
    let p = c.args.p.now in let tables = c.args.tables.now in
    let made = ap (option_map (frame_in p tables)) (sym c.in-Some.is) ∙ c.in_ok-frame.ensures.is in
    let x = main_frame (shown p) (frame_in p tables c.in-Some.frame) made in
    let f = status_of p tables in
    let count : c.threads.result ≡ length (creations (shown p)) + 1 = c.threads.ensures (shown p) c.requires.tables.numbers in
    let others : c.saturating_sub.result ≡ length (creations (shown p)) = omega (arith, count, c.saturating_sub.ensures) in
    let frames : c.push.new.self.items ≡ c.in-Some.frame ∷ [] = c.in_ok-push.ensures.items ∙ ap (λ l. l ++ c.in-Some.frame ∷ []) c.new-frames.ensures.items in
    let thread : Thread = record { doing = Running; frames = c.push.new.self } in
    let threads : c.push-2.new.self.items ≡ thread ∷ [] = c.in_ok-push-2.ensures.items ∙ ap (λ l. l ++ thread ∷ []) c.new-threads.ensures.items in
    c.in_ok-push_threads.ensures.are p tables
    ∙ ap (λ n. map f c.push-2.new.self.items ++ replicate n run.NotBegun) others
    ∙ ap (λ l. map f l ++ replicate (length (creations (shown p))) run.NotBegun) threads
    ∙ ap (λ l. run.Running (map (frame_in p tables) (reverse l)) ∷ replicate (length (creations (shown p))) run.NotBegun) frames
    ∙ ap (λ y. run.Running (y ∷ []) ∷ replicate (length (creations (shown p))) run.NotBegun) x

pub unreachable-requires : goal.unreachable-requires
unreachable-requires c =
    let p = c.args.p.now in
    main_is_made p c.requires.accepted (ap (option_map (frame_in p c.args.tables.now)) (sym c.in_default.is) ∙ c.in_ok-frame.ensures.is)
