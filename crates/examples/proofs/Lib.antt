mod Received
