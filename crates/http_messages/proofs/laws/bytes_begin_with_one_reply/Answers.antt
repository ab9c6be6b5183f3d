use Rattle.http_messages.proofs.UniqueReply.{BeginsReply-unique}
use Rattle.http_messages.proofs.laws.bytes_begin_with_one_reply.Goals as goal

pub returns : goal.returns
returns c = λ bytes reply other n m first second. BeginsReply-unique bytes other reply m n second first
