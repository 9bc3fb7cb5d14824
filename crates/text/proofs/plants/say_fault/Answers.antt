-- Two faults have words of their own. Assumes nothing.
use Rattle.text.proofs.PlantsLaws.{fault_said_again, fault_said_many}
use Rattle.text.proofs.plants.say_fault.Goals as goal

pub returns-in-Err-Again : goal.returns-in-Err-Again
returns-in-Err-Again c =
    let arm = c.in-Err-Again in
    record {
      said = fault_said_again c.args.p c.args.list.now arm.is (rw arm.is at arm.field-0-is) c.say_of_line.ensures.said;
    }

pub returns-in-Err-Many : goal.returns-in-Err-Many
returns-in-Err-Many c =
    let arm = c.in-Err-Many in
    record { said = fault_said_many c.args.p c.args.list.now arm.is (rw arm.is at arm.field-0-is) c.say.ensures.said }
