use mathlib.Core.Path.{refl}
use Rattle.commands.proofs.LineRuns.{parsed_as, line_does, line_lists, line_unreadable}
use Rattle.commands.proofs.running.run_line.Goals as goal

pub returns-in_default : goal.returns-in_default
returns-in_default c = line_unreadable _ _ _ _ _ c.in_default.ensures _ c.number.ensures c.put_answer.ensures

pub run_put-requires : goal.run_put-requires
run_put-requires c = (parsed_as c.in-Some.ensures c.in-Put.is).inside

pub run_drop-requires : goal.run_drop-requires
run_drop-requires c = (parsed_as c.in-Some.ensures c.in-Drop.is).inside

pub run_default-requires : goal.run_default-requires
run_default-requires c = (parsed_as c.in-Some.ensures c.in-Default.is).inside

pub run_override-requires : goal.run_override-requires
run_override-requires c = (parsed_as c.in-Some.ensures c.in-Override.is).inside

pub returns-in-Put : goal.returns-in-Put
returns-in-Put c = line_does _ _ _ _ _ _ _ c.in-Some.ensures c.in-Put.is _ _ _ c.run_put.ensures refl c.put_answer-in-Put.ensures

pub returns-in-Drop : goal.returns-in-Drop
returns-in-Drop c = line_does _ _ _ _ _ _ _ c.in-Some.ensures c.in-Drop.is _ _ _ c.run_drop.ensures refl c.put_answer-in-Drop.ensures

pub returns-in-Default : goal.returns-in-Default
returns-in-Default c = line_does _ _ _ _ _ _ _ c.in-Some.ensures c.in-Default.is _ _ _ c.run_default.ensures refl c.put_answer-in-Default.ensures

pub returns-in-Override : goal.returns-in-Override
returns-in-Override c = line_does _ _ _ _ _ _ _ c.in-Some.ensures c.in-Override.is _ _ _ c.run_override.ensures refl c.put_answer-in-Override.ensures

pub returns-in-List : goal.returns-in-List
returns-in-List c = line_lists _ _ _ _ _ _ _ c.in-Some.ensures c.in-List.is refl c.run_list.ensures
