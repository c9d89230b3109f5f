use Rattle.mb_command.proofs.SurveyParts.{act_load, act_emergency, act_new_key}
use Rattle.mb_command.proofs.survey_act.survey_act.Goals as goal

pub returns-in-Load : goal.returns-in-Load
returns-in-Load c =
    rw c.in-Load.is (act_load c.args.form.differs c.args.cursor.now c.survey_payload.new.cursor c.survey_payload.result c.survey_payload.ensures)

pub returns-in-Emergency : goal.returns-in-Emergency
returns-in-Emergency c =
    rw c.in-Emergency.is (act_emergency c.args.form.differs c.args.cursor.now c.survey_payload-in-Emergency.new.cursor c.survey_payload-in-Emergency.result c.survey_payload-in-Emergency.ensures)

pub returns-in-NewKey : goal.returns-in-NewKey
returns-in-NewKey c =
    rw c.in-NewKey.is (act_new_key c.args.form.differs c.args.cursor.now c.survey_key_kind.new.cursor c.survey_key_kind.result c.survey_key_kind.ensures)
