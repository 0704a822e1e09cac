mod ReplyLaws
