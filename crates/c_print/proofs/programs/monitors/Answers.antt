use Rattle.c_print.proofs.ProgramTexts.{monitors_text}
use Rattle.c_print.proofs.programs.monitors.Goals as goal

pub returns-in_ok-wait_call-in-Some : goal.returns-in_ok-wait_call-in-Some
returns-in_ok-wait_call-in-Some c =
    monitors_text c.args.out.now.items c.put.new.out.items c.length.new.out.items c.put-in-Some.new.out.items c.put_number.new.out.items c.following_numbers.new.out.items c.put-in-Some-2.new.out.items c.wait_call.new.out.items
    c.args.len c.args.caps.now c.in-Some.first.now c.in-Some.more.now c.args.waits c.in-Some.ensures.cases.0
    c.in_ok-put-in-Some.ensures c.in_ok-length-in-Some.ensures c.in_ok-put-in-Some-2.ensures c.in_ok-put_number-in-Some.ensures c.in_ok-following_numbers-in-Some.ensures c.in_ok-put-in-Some-3.ensures c.in_ok-wait_call-in-Some.ensures
