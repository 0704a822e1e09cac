mod Restored
