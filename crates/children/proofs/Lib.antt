mod Children
