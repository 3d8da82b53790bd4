use Rattle.lattice_file.specs.Reading.{standing_of}
use Rattle.lattice_file.proofs.FrontLemmas.{front_attribute, front_value, front_flow_name, front_flow}
use Rattle.lattice_file.proofs.blocks.Reader.word_front.Goals as goal

pub returns-in-Attribute : goal.returns-in-Attribute
returns-in-Attribute c =
    front_attribute (standing_of c.args.self.now) c.args.word.now c.name_front-in-Attribute.result c.in-Attribute.is
    c.name_front-in-Attribute.ensures

pub returns-in-Value : goal.returns-in-Value
returns-in-Value c =
    front_value (standing_of c.args.self.now) c.in-Value.attribute c.args.word.now c.value_front.result c.in-Value.is
    c.value_front.ensures

pub returns-in-FlowName : goal.returns-in-FlowName
returns-in-FlowName c =
    front_flow_name (standing_of c.args.self.now) c.args.word.now c.name_front-in-FlowName.result c.in-FlowName.is
    c.name_front-in-FlowName.ensures

pub returns-in-FlowValue : goal.returns-in-FlowValue
returns-in-FlowValue c =
    front_flow (standing_of c.args.self.now) c.in-FlowValue.attribute c.args.word.now c.value_front-in-FlowValue.result
    c.in-FlowValue.is (c.value_front-in-FlowValue.ensures c.args.self.now.flows)
